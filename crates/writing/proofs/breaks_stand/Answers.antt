use Rattle.writing.proofs.Breaks.{boxes_whole, lines_parted, mark_whole, motif_whole}
use Rattle.writing.proofs.breaks_stand.Goals as goal

pub returns : goal.returns
returns c = record { boxes_whole = boxes_whole; mark_whole = mark_whole; motif_whole = motif_whole; lines_parted = lines_parted }
