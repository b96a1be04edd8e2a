use Rattle.tape.proofs.Elements.{letter_law}
use Rattle.tape.proofs.Walks.{list_law, object_law, rows_law, next_law, first_law, text_law}
use Rattle.tape.proofs.walks_stand.Goals as goal

pub returns : goal.returns
returns c = record {
  list = list_law;
  object = object_law;
  rows = rows_law;
  next = next_law;
  first = first_law;
  text = text_law;
  letter = letter_law;
}
