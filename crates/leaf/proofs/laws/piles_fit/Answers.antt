use Rattle.leaf.proofs.Fitted.{piles_fit_lem, piles_give_bytes}
use Rattle.leaf.proofs.laws.piles_fit.Goals as goal

pub returns : goal.returns
returns c = record { fit = piles_fit_lem; bytes = piles_give_bytes }
