use Rattle.std.proofs.Common.{◌*◌, ap, ◌∙◌, arith}
use Rattle.schema.proofs.Nodes.{held_end}
use Rattle.shelf.proofs.Batches.{zeros_blank, writes_ok, walked_err, wiped}
use Rattle.shelf.proofs.write.Goals as goal

pub walk-requires : goal.walk-requires
walk-requires g c = record {
  ready = record {
    formed = (c.args.named.frame.schema.opened.0, c.args.named.frame.schema.opened.1.held);
    few = c.requires.few;
    lent = c.requires.lent;
    apart = omega (arith, c.len.ensures.said, (held_end c.args.named.frame.schema.opened.1.held).1);
    within = omega (arith, c.len.ensures.said, c.requires.records);
    page = c.requires.small;
    blank = zeros_blank c.args.area.now (32 * c.len.result) c.requires.free;
  };
}

pub returns-in-Ok : goal.returns-in-Ok
returns-in-Ok g c = λ root size o.
    writes_ok c.args.named.frame.settings (g.X.Leaf.meaning c.args.named.frame.custom.now) _ _ _ c.args.rows.positions.now _ c.args.area.now c.walk.new.area (32 * c.len.result) c.walk.new.top root size o
    (ap (λ n. 32 * n) c.len.ensures.said) c.args.rows.tape.opened.first c.in-Ok.field-0 c.in-Ok.ensures

pub returns-in-Err : goal.returns-in-Err
returns-in-Err g c = λ root size o.
    let w = c.in-Err.ensures in
    record {
      outcome = walked_err c.args.named.frame.settings (g.X.Leaf.meaning c.args.named.frame.custom.now) _ _ _ c.args.rows.positions.now _ c.args.area.now c.walk.new.area (32 * c.len.result) c.walk.new.top root size o
          (ap (λ n. 32 * n) c.len.ensures.said) c.in-Err.fault w;
      content = tt;
      unwritten = c.zero.ensures ∙ wiped c.args.area.now c.walk.new.area c.walk.new.top c.requires.free c.walk.auto.area w.within w.blank;
    }
