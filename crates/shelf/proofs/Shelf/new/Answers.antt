use Rattle.std.proofs.Common.{length, refl, ap, arith}
use Rattle.nodes.specs.Contract.{setup_of}
use Rattle.shelf.proofs.Holding.{none_inside, none_rising, holds_none}
use Rattle.shelf.proofs.Sweeping.{holds_none_swept}
use Rattle.shelf.proofs.Shelf.new.Goals as goal

pub invariant_of-result : goal.invariant_of-result
invariant_of-result g c = record { few = omega (arith, ap length c.new.ensures); inside = none_inside c.new.result.items c.new.ensures; rising = none_rising c.new.result.items c.new.ensures; cleared = λ e. absurd cc }

pub returns-clause-holds : goal.returns-clause-holds
returns-clause-holds g c = λ root tree fresh.
    holds_none (setup_of c.args.settings (g.X.Leaf.meaning c.args.custom.now) root (length c.args.page.now)) c.args.schema c.args.page.now c.new.result.items tree fresh refl c.new.ensures

pub returns-clause-swept : goal.returns-clause-swept
returns-clause-swept g c = λ root tree fit.
    holds_none_swept (setup_of c.args.settings (g.X.Leaf.meaning c.args.custom.now) root (length c.args.page.now)) c.args.schema c.args.page.now c.new.result.items tree fit refl c.new.ensures
