use Rattle.std.proofs.Common.{◌≡◌, ℕ, length, replicate, sym, ap, ◌∙◌}
use Rattle.std.proofs.lemmas.List.{length-replicate}
use Rattle.leaf.specs.Meaning.{value}
use Rattle.leaf_tests.proofs.AlwaysSameLeaf.write.Goals as goal

pub returns : goal.returns
returns c =
    let long = length-replicate c.args.self.now.size c.args.self.now.byte in
    let size : c.args.self.now.size ≡ length c.args.out.now = cc in
    ap value (ap (λ (n : ℕ). replicate n c.args.self.now.byte) size ∙ sym (c.fill.ensures.after (λ y e. e)))
