use Rattle.std.proofs.Common.{◌≡◌, [], get_or, rules, arith, ◌≢◌}
use borrow.Author.Tests.{tests}
use Rattle.std.proofs.lemmas.Iterator.{first_from_Range}
use Rattle.names.specs.Lowest.{lowest}
use Rattle.names.specs.Scans.{scan_names}
use Rattle.names.proofs.Lowests.{lowest_from}
use Rattle.names.proofs.scan.ScanNameIndex.find.Goals as goal

pub returns : goal.returns
returns c =
    let ns = scan_names c.args.self.now in
    let s = c.args.name.now in
    let found : c.find.result ≡ lowest ns s = lowest_from ns s c.len.result c.find.result c.len.ensures.value
    (first_from_Range _ _ _ c.find.result (λ k. get_or ns k [] ≡ s) (λ k. get_or ns k [] ≢ s) c.find.ensures.ran (λ x q k. search (rules, tests)) (λ x q k. search (rules, tests))) in
    grind arith
