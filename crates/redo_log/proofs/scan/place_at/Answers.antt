use Rattle.std.proofs.Common.{ℕ, [], true, false, sym, subst}
use Rattle.file_model.specs.Sections.{blocks_place}
use Rattle.file_model.specs.Blocks.{blocks_len}
use Rattle.redo_log.specs.declared.place.Gate.{Gate}
use Rattle.redo_log.specs.Scans.{LeadsTo, Advances}
use Rattle.redo_log.proofs.FindLemmas.{found}
use Rattle.redo_log.proofs.PlaceLemmas.{place, closed_advances, early_advances, open_advances}
use Rattle.redo_log.proofs.scan.place_at.Goals as goal

pub returns-in-Closed-clause-log : goal.returns-in-Closed-clause-log
returns-in-Closed-clause-log c region from file most whole fits leads =
    let l = c.args.layout.now in
    let P : Gate → Type 0 = λ g. LeadsTo l.pages (blocks_place l region) (blocks_len l) from (found c.args.found.at g) file in
    closed_advances l c.requires.limits region most file whole from c.args.found.at fits.behind fits.inside (subst P c.in-Closed.is leads)

pub returns-in-Early-clause-log : goal.returns-in-Early-clause-log
returns-in-Early-clause-log c region from file most whole fits leads =
    let l = c.args.layout.now in
    let P : Gate → Type 0 = λ g. LeadsTo l.pages (blocks_place l region) (blocks_len l) from (found c.args.found.at g) file in
    let Q : ℕ → Type 0 = λ m. Advances l region [] (place from 0 false) (place m 0 true) file in
    subst Q (sym c.region_room.ensures) (early_advances l c.requires.limits region most file whole from c.args.found.at fits.behind fits.inside (subst P c.in-Early.is leads))

pub returns-in-Open-clause-log : goal.returns-in-Open-clause-log
returns-in-Open-clause-log c region from file most whole fits leads =
    let l = c.args.layout.now in
    let P : Gate → Type 0 = λ g. LeadsTo l.pages (blocks_place l region) (blocks_len l) from (found c.args.found.at g) file in
    open_advances l c.requires.limits region most file whole from c.args.found.at fits.behind fits.inside c.in-Open.left (subst P c.in-Open.is leads)
