use Rattle.columns.proofs.Records.{record_written}
use Rattle.columns.proofs.plan.Plan.put_record.Goals as goal

pub returns : goal.returns
returns c =
    record_written c.args.self c.args.area.now _ _ _ _ _ c.args.node c.args.top _ _ c.requires.room c.round_up.ensures c.round_up-2.ensures
    c.write_at.ensures c.write_at-2.ensures c.put_buffer.ensures c.put_buffer-2.ensures c.put_buffer-3.ensures
