use Rattle.std.proofs.Common.{◌≡◌, ℕ, ◌-◌, length, take, drop, replicate, sym, ap, ◌∙◌, arith}
use lib.ListN.{length-replicate}
use Rattle.std.proofs.lemmas.List.{length-drop, length-take-le}
use Rattle.octets.proofs.Splices.{splice-part}
use Rattle.octets.proofs.zero.Goals as goal

pub returns : goal.returns
returns c =
    let n = c.args.to - c.args.from in
    let d = length-drop c.args.from c.args.bytes.now in
    let part-size : length (take n (drop c.args.from c.args.bytes.now)) ≡ n = length-take-le n (drop c.args.from c.args.bytes.now) (omega arith) in
    splice-part c.args.from n c.args.bytes.now _ (replicate n 0) (c.fill.ensures.after (λ y e. e) ∙ ap (λ (m : ℕ). replicate m 0) part-size) (sym (length-replicate {A = ℕ} n 0))
