use Rattle.writing.proofs.Motifs.{motif_read, motif_taken}
use Rattle.writing.proofs.motifs_stand.Goals as goal

pub returns : goal.returns
returns c = record { motif_read = motif_read; motif_taken = motif_taken }
