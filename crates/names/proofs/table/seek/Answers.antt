use Rattle.std.proofs.Common.{◌+◌, ◌%◌, refl, arith, rules}
use borrow.Author.Tests.{tests}
use Rattle.std.proofs.lemmas.Iterator.{YieldsList-from_map, YieldsList-from_range}
use Rattle.std.proofs.lemmas.Iterator.Consumers.{YieldsList-at}
use Rattle.names.specs.Scans.{scan_names}
use Rattle.names.proofs.Fields.{names_few}
use Rattle.names.proofs.Seats.{look_ends}
use Rattle.names.proofs.table.seek.Goals as goal

pub unwrap-requires : goal.unwrap-requires
unwrap-requires c =
    let t = c.told-slots in
    let s = c.args.scan.now in
    (look_ends (scan_names s) c.args.slots.now c.args.name.now _ _ c.find.result c.hash-first.ensures.value (omega arith) (omega (arith, names_few s, c.requires.room)) c.find.ensures.ran
    (YieldsList-from_map _ (λ s. (c.hash-first.result + s) % 128) (YieldsList-at c.map.ensures.source (YieldsList-from_range 0 128 128 refl refl)) c.map.ensures.closure (λ x r q k. search (rules, tests)))
    (λ x q k. search (rules, tests))
    (λ x q k. search (rules, tests))).some

pub returns-clause-sought : goal.returns-clause-sought
returns-clause-sought c =
    let t = c.told-slots in
    let s = c.args.scan.now in
    (look_ends (scan_names s) c.args.slots.now c.args.name.now _ _ c.find.result c.hash-first.ensures.value (omega arith) (omega (arith, names_few s, c.requires.room)) c.find.ensures.ran
    (YieldsList-from_map _ (λ s. (c.hash-first.result + s) % 128) (YieldsList-at c.map.ensures.source (YieldsList-from_range 0 128 128 refl refl)) c.map.ensures.closure (λ x r q k. search (rules, tests)))
    (λ x q k. search (rules, tests))
    (λ x q k. search (rules, tests))).sought c.unwrap.result c.unwrap.ensures
