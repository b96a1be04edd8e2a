use Rattle.batch.proofs.laws.Goals as goal
use Rattle.batch.proofs.Bytewise.{all_bytes}
use Rattle.batch.proofs.Spelled.{batches_spelled, tapes_worded}
use Rattle.batch.proofs.Whole.{batches_in_format, batches_filled, batches_read_back, same_bytes, whole_words}

pub returns : goal.returns
returns c = record { format = batches_in_format; filled = batches_filled; spelled = batches_spelled; worded = tapes_worded; back = batches_read_back; same = same_bytes; words = whole_words; bytes = all_bytes }
