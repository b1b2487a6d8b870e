use Rattle.std.proofs.Common.{inl, inr, List, sym, subst}
use Rattle.std.proofs.lemmas.Bool.{cases_lt}
use Rattle.engine_base.specs.Addresses.{address_of}
use Rattle.file_lists.proofs.LinkLemmas.{handed_on}
use Rattle.lob_index.proofs.AnswerLemmas.{becomes_on}
use Rattle.store_data.specs.Pieces.{dropped}
use Rattle.store_data.specs.Store.{Version}
use Rattle.lob_model.specs.Changes.{piece}
use Rattle.lob_versions.specs.Versions.{HasPiece, LosesVersion}
use Rattle.store_steps.proofs.LobLemmas.{lob_at}
use Rattle.store_steps.proofs.CutLemmas.{cut_at}
use Rattle.purge.proofs.VersionLemmas.{ends, has_piece, version_goes, version_stays, none_stays, newer_stays}
use Rattle.purge.proofs.versions.drop_version.Goals as goal

pub returns-in_err-drop_oldest-clause-never : goal.returns-in_err-drop_oldest-clause-never
returns-in_err-drop_oldest-clause-never g c = λ there pages store l k told on found head.
    let page = c.args.first.0 in
    let a = address_of c.args.head in
    let at = lob_at there pages store page l on found in
    let cut = cut_at k l.pieces a head in
    handed_on c.drop_oldest.result _ _ (c.drop_oldest.ensures.never pages l cut.bs cut.p cut.cs
    (has_piece there pages store page l at found k a cut _ told))
    c.in_err-drop_oldest.was c.from_residual.ensures

pub returns-clause-drops : goal.returns-clause-drops
returns-clause-drops g c = λ there pages store l k told on found head.
    let page = c.args.first.0 in
    let a = address_of c.args.head in
    let at = lob_at there pages store page l on found in
    let cut = cut_at k l.pieces a head in
    let v = c.args.v.0 in
    let p = cut.p in
    let has = has_piece there pages store page l at found k a cut _ told in
    let H : List Version → Type 0 = λ vs.
    HasPiece (g.P.Pages.state c.args.p.now).told page a pages l cut.bs (piece p.head vs) cut.cs in
    elim (ends p.older) [
      | inl none ↦
          let stays = c.in_ok-drop_oldest.ensures.none pages l cut.bs p.head cut.cs (subst H none has) in (
            pages,
            stays.1,
            version_stays there pages store page l at found k a cut v
                (none_stays there pages store page l at found k a cut v none) on,
          )
      | inr last ↦
          let ys = last.0 in
          let x = last.1 in
          let has' = subst H last.2 has in
          elim (cases_lt v x.number) [
            | inl high ↦
                let stays = c.in_ok-drop_oldest.ensures.newer pages l cut.bs p.head ys x cut.cs has' high in (
                  pages,
                  stays.1,
                  version_stays there pages store page l at found k a cut v
                      (newer_stays there pages store page l at found k a cut v ys x last.2 high) on,
                )
            | inr low ↦
                let goes = c.in_ok-drop_oldest.ensures.drops pages l cut.bs p.head ys x cut.cs has' low in
                becomes_on _ _ _ (λ new loses. version_goes there pages store page l at found k a cut v ys x
                last.2 low new (subst (λ (vs : List Version). LosesVersion l cut.bs (piece p.head vs)
                (dropped (piece p.head vs)) cut.cs x.place x.page pages new) (sym last.2) loses)) goes.1
          ]
    ]
