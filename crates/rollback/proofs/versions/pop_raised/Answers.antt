use Rattle.std.proofs.Common.{◌≡◌, ◌≢◌, suc, List, [], ◌∷◌, sym, subst, ◌∙◌, lit≤, arith}
use Rattle.page_model.proofs.StepLemmas.{may_within, uses_more, uses_within, within_one}
use Rattle.engine_base.specs.Addresses.{address_of}
use Rattle.file_lists.proofs.LinkLemmas.{handed_on, at_told}
use Rattle.lob_index.proofs.AnswerLemmas.{becomes_on}
use Rattle.lob_pages.specs.Entries.{IsEntryAt}
use Rattle.lob_model.specs.Changes.{piece}
use Rattle.lob_versions.specs.Versions.{HasPiece, LosesVersion}
use Rattle.store_data.specs.Store.{Version}
use Rattle.store_data.specs.Pieces.{popped}
use Rattle.store_steps.proofs.LobLemmas.{lob_at}
use Rattle.store_steps.proofs.CutLemmas.{cut_at}
use Rattle.rollback.proofs.VersionLemmas.{has_piece, has_older, number_read, version_goes, version_stays, reads_turn, reads_stay}
use Rattle.rollback.proofs.versions.pop_raised.Goals as goal

pub returns-then-from-clause-pops : goal.returns-then-from-clause-pops
returns-then-from-clause-pops g c = λ there pages store l k told on found head can.
    let page = c.args.first.0 in
    let at = lob_at there pages store page l on found in
    let cut = cut_at k l.pieces (address_of c.args.head) head in
    let read = number_read there pages store page l at found k _ cut c.in_ok-entry.entry
    (at_told _ (λ ps. IsEntryAt ps (address_of c.args.head) c.in_ok-entry.entry) pages told c.in_ok-entry.ensures.value) in
    let other : cut.p.head.number ≢ suc c.args.v.0 =
    λ e. c.if-from.true (let f = c.from.ensures in let f2 = c.from-2.ensures in omega (arith, e, f, f2, read)) in
    (pages, c.read_entry.ensures.told ∙ told, version_stays there pages store page l at found k _ cut c.args.v.0 other on)

pub returns-then-from-clause-turns : goal.returns-then-from-clause-turns
returns-then-from-clause-turns g c = λ there pages store l k told on found head can.
    let page = c.args.first.0 in
    let at = lob_at there pages store page l on found in
    let cut = cut_at k l.pieces (address_of c.args.head) head in
    let read = number_read there pages store page l at found k _ cut c.in_ok-entry.entry
    (at_told _ (λ ps. IsEntryAt ps (address_of c.args.head) c.in_ok-entry.entry) pages told c.in_ok-entry.ensures.value) in
    let other : cut.p.head.number ≢ suc c.args.v.0 =
    λ e. c.if-from.true (let f = c.from.ensures in let f2 = c.from-2.ensures in omega (arith, e, f, f2, read)) in
    reads_stay there pages store page l at found k _ cut c.args.v.0 other c.args.flights.now

pub pop_version-requires-clause-may : goal.pop_version-requires-clause-may
pop_version-requires-clause-may g c =
    let ns = c.args.head.page.0 ∷ c.args.first.0 ∷ 0 ∷ [] in
    may_within ns ns 3 169 0 0 3 169 c.args.p.now c.read_entry.new.p (λ n is. is) (lit≤ tt) (lit≤ tt)
    c.requires.may (uses_more (c.args.head.page.0 ∷ []) ns 0 0 0 0 _ _ c.read_entry.ensures.uses
    (within_one c.args.head.page.0 (c.args.first.0 ∷ 0 ∷ [])) (lit≤ tt) (lit≤ tt))

pub returns-in_err-node-clause-never : goal.returns-in_err-node-clause-never
returns-in_err-node-clause-never g c = λ there pages store l k told on found head can.
    let page = c.args.first.0 in
    let a = address_of c.args.head in
    let at = lob_at there pages store page l on found in
    let cut = cut_at k l.pieces a head in
    let read = number_read there pages store page l at found k _ cut c.in_ok-entry.entry
    (at_told _ (λ ps. IsEntryAt ps a c.in_ok-entry.entry) pages told c.in_ok-entry.ensures.value) in
    let f = c.from.ensures in let f2 = c.from-2.ensures in let t = c.if-from.false in
    let same : cut.p.head.number ≡ suc c.args.v.0 = omega (arith, f, f2, t, read) in
    let older = has_older cut.p.older (can cut.p cut.there same) in
    let has = subst (λ (vs : List Version). HasPiece (g.P.Pages.state c.read_entry.new.p).told page a pages l cut.bs (piece cut.p.head vs) cut.cs)
    older.2 (has_piece there pages store page l at found k a cut _ (c.read_entry.ensures.told ∙ told)) in
    handed_on c.pop_version.result _ _
    (c.pop_version.ensures.never pages l cut.bs cut.p.head older.0 older.1 cut.cs has)
    c.in_err-node.was c.from_residual-in_err-node.ensures

pub returns-in_err-node-clause-uses : goal.returns-in_err-node-clause-uses
returns-in_err-node-clause-uses g c =
    let ns = c.args.head.page.0 ∷ c.args.first.0 ∷ 0 ∷ [] in
    uses_within g.P.Pages.stays_on ns ns 0 0 3 169 c.args.p.now c.read_entry.new.p c.pop_version.new.p (λ n is. is)
    (uses_more (c.args.head.page.0 ∷ []) ns 0 0 0 0 _ _ c.read_entry.ensures.uses
    (within_one c.args.head.page.0 (c.args.first.0 ∷ 0 ∷ [])) (lit≤ tt) (lit≤ tt)) c.pop_version.ensures.uses

pub returns-clause-pops : goal.returns-clause-pops
returns-clause-pops g c = λ there pages store l k told on found head can.
    let page = c.args.first.0 in
    let a = address_of c.args.head in
    let at = lob_at there pages store page l on found in
    let cut = cut_at k l.pieces a head in
    let read = number_read there pages store page l at found k _ cut c.in_ok-entry.entry
    (at_told _ (λ ps. IsEntryAt ps a c.in_ok-entry.entry) pages told c.in_ok-entry.ensures.value) in
    let f = c.from.ensures in let f2 = c.from-2.ensures in let t = c.if-from.false in
    let same : cut.p.head.number ≡ suc c.args.v.0 = omega (arith, f, f2, t, read) in
    let older = has_older cut.p.older (can cut.p cut.there same) in
    let has = subst (λ (vs : List Version). HasPiece (g.P.Pages.state c.read_entry.new.p).told page a pages l cut.bs (piece cut.p.head vs) cut.cs)
    older.2 (has_piece there pages store page l at found k a cut _ (c.read_entry.ensures.told ∙ told)) in
    let pops = c.in_ok-node.ensures.pops pages l cut.bs cut.p.head older.0 older.1 cut.cs has in
    becomes_on _ _ _ (λ new loses. version_goes there pages store page l at found k a cut c.args.v.0 older.0 older.1
    older.2 same new (subst (λ (vs : List Version). LosesVersion l cut.bs (piece cut.p.head vs)
    (popped (piece cut.p.head vs)) cut.cs older.0.place cut.p.head.page pages new) (sym older.2) loses)) pops.1

pub returns-clause-turns : goal.returns-clause-turns
returns-clause-turns g c = λ there pages store l k told on found head can.
    let page = c.args.first.0 in
    let a = address_of c.args.head in
    let at = lob_at there pages store page l on found in
    let cut = cut_at k l.pieces a head in
    let read = number_read there pages store page l at found k _ cut c.in_ok-entry.entry
    (at_told _ (λ ps. IsEntryAt ps a c.in_ok-entry.entry) pages told c.in_ok-entry.ensures.value) in
    let f = c.from.ensures in let f2 = c.from-2.ensures in let t = c.if-from.false in
    let same : cut.p.head.number ≡ suc c.args.v.0 = omega (arith, f, f2, t, read) in
    let older = has_older cut.p.older (can cut.p cut.there same) in
    let has = subst (λ (vs : List Version). HasPiece (g.P.Pages.state c.read_entry.new.p).told page a pages l cut.bs (piece cut.p.head vs) cut.cs)
    older.2 (has_piece there pages store page l at found k a cut _ (c.read_entry.ensures.told ∙ told)) in
    let pops = c.in_ok-node.ensures.pops pages l cut.bs cut.p.head older.0 older.1 cut.cs has in
    reads_turn there pages store page l at found k a cut c.args.v.0 older.0 older.1 older.2 same
    (address_of c.in_ok-node.node) pops.0 _ _ c.move_all.ensures

pub returns-clause-uses : goal.returns-clause-uses
returns-clause-uses g c =
    let ns = c.args.head.page.0 ∷ c.args.first.0 ∷ 0 ∷ [] in
    uses_within g.P.Pages.stays_on ns ns 0 0 3 169 c.args.p.now c.read_entry.new.p c.pop_version.new.p (λ n is. is)
    (uses_more (c.args.head.page.0 ∷ []) ns 0 0 0 0 _ _ c.read_entry.ensures.uses
    (within_one c.args.head.page.0 (c.args.first.0 ∷ 0 ∷ [])) (lit≤ tt) (lit≤ tt)) c.pop_version.ensures.uses
