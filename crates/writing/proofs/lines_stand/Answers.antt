use Rattle.writing.proofs.Lines.{boxes_read, boxes_taken, mark_read, mark_taken}
use Rattle.writing.proofs.lines_stand.Goals as goal

pub returns : goal.returns
returns c = record { boxes_read = boxes_read; boxes_taken = boxes_taken; mark_read = mark_read; mark_taken = mark_taken }
