use Rattle.std.proofs.Common.{◌∙◌, arith}
use Rattle.names.specs.Slots.{slot_at}
use Rattle.names.proofs.Seats.{known_in, few_in, answer_same, answer_in}
use Rattle.names.proofs.table.TableNameIndex.find.Goals as goal

pub seek-requires-clause-known : goal.seek-requires-clause-known
seek-requires-clause-known c = known_in c.args.self.now.keyed

pub seek-requires-clause-room : goal.seek-requires-clause-room
seek-requires-clause-room c = few_in c.args.self.now.keyed

pub returns : goal.returns
returns c =
    answer_same (slot_at c.args.self.now.slots c.seek.result) c.map.result _ c.map.ensures.cases (λ x y k. omega arith) ∙ answer_in c.args.self.now.keyed c.seek.ensures.sought
