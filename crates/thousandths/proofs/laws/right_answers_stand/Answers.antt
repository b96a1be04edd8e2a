use Rattle.thousandths.proofs.Telling.{right_answers}
use Rattle.thousandths.proofs.laws.right_answers_stand.Goals as goal

pub returns : goal.returns
returns c = right_answers
