use Rattle.std.proofs.Common.{map, subst}
use Rattle.std.specs.List.{AllByRecursion}
use Rattle.text.specs.Pages.{motif_entry, page_of}
use Rattle.writing.specs.Lines.{Codes}
use Rattle.writing.specs.Motifs.{LawfulMotif}
use Rattle.round_trip.specs.Laws.{LawfulPage}
use Rattle.round_trip.proofs.Chapters.{round_trip}
use Rattle.round_trip.proofs.Lawful.{chapter_lawful}
use Rattle.round_trip.proofs.keeps.chapter_stands.Goals as goal

pub returns : goal.returns
returns c =
    let chapter = c.args.chapter.now in
    let lawful : LawfulPage (page_of chapter) = chapter_lawful chapter (subst (λ ms. AllByRecursion LawfulMotif (map motif_entry ms)) c.motifs.ensures.value c.motifs_keep.ensures) (subst Codes c.row.ensures.value c.codes_keep.ensures) in
    record { lawful = lawful; back = round_trip (page_of chapter) lawful }
