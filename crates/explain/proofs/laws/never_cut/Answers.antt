use Rattle.explain.proofs.Cuts.{never_cut_lem}
use Rattle.explain.proofs.laws.never_cut.Goals as goal

pub returns : goal.returns
returns c = never_cut_lem
