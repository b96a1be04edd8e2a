use Rattle.schema.proofs.records.Records.kind.Goals as goal

pub returns : goal.returns
returns c = rw (c.letter.ensures, c.flag.ensures, c.wide.ensures, c.count.ensures.said) at c.kind.ensures
