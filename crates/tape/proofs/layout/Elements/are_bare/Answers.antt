use Rattle.std.proofs.Common.{refl, rules, tests, arith}
use Rattle.std.proofs.lemmas.Iterator.{YieldsList-from_range}
use Rattle.tape.specs.Opens.{Bare}
use Rattle.tape.proofs.Ranges.{all_of_range}
use Rattle.tape.proofs.layout.Elements.are_bare.Goals as goal

pub returns : goal.returns
returns c =
    let d = all_of_range _ _ _ _ c.all.result (Bare c.args.self.bytes.now) c.all.ensures.ran (YieldsList-from_range _ _ _ refl refl) (λ x q k. search (rules, tests)) (λ x q k. search (rules, tests)) in
    ((λ e p l. d.0 e p (omega arith) (omega arith)), (λ h. d.1 (λ k a l. h k (omega arith))))
