use Rattle.thousandths.proofs.Telling.{well_laid}
use Rattle.thousandths.proofs.laws.well_laid_stands.Goals as goal

pub returns : goal.returns
returns c = well_laid
