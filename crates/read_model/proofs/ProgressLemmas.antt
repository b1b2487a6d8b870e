-- Each event of a read brings it on.
use Rattle.std.proofs.Common.{◌≡◌, ◌≢◌, ◌⊎◌, inl, inr, ℕ, zero, suc, ◌+◌, ◌<◌, ◌≤◌, Bool, true, false, cond, List, [], ◌∷◌, ◌++◌, length, drop, refl, sym, ap, ap₂, subst, ◌∙◌, arith}
use Rattle.std.specs.Prelude.{Option, Some, None, is_some, nat_le}
use Rattle.std.proofs.lemmas.List.{append_assoc}
use Rattle.page_model.specs.Pages.{Address}
use Rattle.store_data.specs.Pieces.{Part, part_of, version_at, piece_at}
use Rattle.store_data.specs.Store.{Row, RowState, absent, live, deleted, Version, Piece}
use Rattle.store_model.specs.Undo.{same_place}
use Rattle.read_model.specs.Patches.{Entry}
use Rattle.read_model.specs.Document.{Document, Sees, IsSeen, AreDistinct, pieces_at}
use Rattle.read_model.specs.Flight.{Phase, Seek, Found, Pieces, Unpatch, Ready, Absent, Flight, row_behind, Stands, IsSearch, IsSearchIn, IsFlightIn, IsFlight}
use Rattle.read_model.specs.Steps.{arrival, seek, Looked, At, More, Gone, look, from_place, versions_from, looked, copy_from, walk, step, lent_in, event_of_read}
use Rattle.read_model.specs.Kinds.{IsNoPlace}
use Rattle.read_model.specs.Progress.{records_from, nodes_left, rank, left_in, IsLower, IsUnderWay, ArePlaces, AreThere}
use Rattle.read_model.proofs.VisibleLemmas.{never, seen_from, seen_row}
use Rattle.read_model.proofs.EventLemmas.{same_true}
use Rattle.read_model.proofs.UndoLemmas.{onward_unseen, onward_same}
use Rattle.read_model.proofs.SeekLemmas.{seek_seen}
use Rattle.read_model.proofs.CopyLemmas.{search_finds, drop_on, look_more}
use Rattle.read_model.proofs.WalkLemmas.{walk_none}
use Rattle.read_model.proofs.WalkProgress.{from_here, low_arrival, Sought, sought, Walked, walked}

-- ---- Pieces

pub there_drop : (v n : ℕ) (ps : List Piece) → AreThere v ps → AreThere v (drop n ps)
there_drop v zero ps there = there
there_drop v (suc n) [] there = tt
there_drop v (suc n) (p ∷ ps) there = there_drop v n ps there.2

pub apart_from : (v : ℕ) (a b : Address) (xs : List Version) → IsNoPlace b xs → Stands v a xs → b ≢ a
apart_from v a b [] none stands same = stands
apart_from v a b (x ∷ xs) none (inl here) same = none.0 (here ∙ sym same)
apart_from v a b (x ∷ xs) none (inr later) same = apart_from v a b xs none.1 later.1 same

pub none_behind : (b : Address) (ys zs : List Version) → IsNoPlace b (ys ++ zs) → IsNoPlace b zs
none_behind b [] zs none = none
none_behind b (y ∷ ys) zs none = none_behind b ys zs none.1

pub from_most : (a : Address) (xs : List Version) → length (from_place a xs) ≤ length xs
from_most a [] = omega arith
from_most a (x ∷ xs) = by_case (same_place x.place a) (from_most a xs)
  where
    by_case : (b : Bool) → length (from_place a xs) ≤ length xs → length (cond b (x ∷ xs) (from_place a xs)) ≤ length (x ∷ xs)
    by_case true rest = omega arith
    by_case false rest = omega (arith, rest)

pub past : (v : ℕ) (a : Address) (x : Version) (xs : List Version) → x.place ≢ a → from_place a (x ∷ xs) ≡ from_place a xs
past v a x xs other = by_case (same_place x.place a) refl
  where
    by_case : (b : Bool) → same_place x.place a ≡ b → cond b (x ∷ xs) (from_place a xs) ≡ from_place a xs
    by_case true is = absurd (other (same_true x.place a is))
    by_case false is = refl

pub shorter : (v : ℕ) (a : Address) (ys : List Version) (z : Version) (zs : List Version) → ArePlaces (ys ++ (z ∷ zs)) → Stands v a zs → length (from_place a (ys ++ (z ∷ zs))) ≤ length zs
shorter v a [] z zs places stands = omega (arith, ap length (past v a z zs (apart_from v a z.place zs places.0 stands)), from_most a zs)
shorter v a (y ∷ ys) z zs places stands =
    omega (
      arith,
      ap length (past v a y (ys ++ (z ∷ zs)) (apart_from v a y.place zs (none_behind y.place (ys ++ (z ∷ [])) zs (subst (IsNoPlace y.place) (sym (append_assoc ys (z ∷ []) zs)) places.0)) stands)),
      shorter v a ys z zs places.1 stands,
    )

-- what is looked at is the end of the versions
pub IsEnd : List Version → List Version → Type 0
IsEnd zs xs = (ys : List Version) × (xs ≡ ys ++ zs)

pub ends : (a : Address) (xs : List Version) → IsEnd (from_place a xs) xs
unfolding IsEnd
ends a [] = ([], refl)
ends a (x ∷ xs) = by_case (same_place x.place a) (ends a xs)
  where
    by_case : (b : Bool) → (ys : List Version) × (xs ≡ ys ++ from_place a xs) → (ys : List Version) × (x ∷ xs ≡ ys ++ cond b (x ∷ xs) (from_place a xs))
    by_case true rest = ([], refl)
    by_case false rest = (x ∷ rest.0, ap (λ (l : List Version). x ∷ l) rest.1)

pub ends_from : (at : Option Address) (p : Piece) → IsEnd (versions_from at p) (p.head ∷ p.older)
unfolding IsEnd
ends_from None p = ([], refl)
ends_from (Some a) p = ends a (p.head ∷ p.older)

pub look_gone : (n v : ℕ) (xs : List Version) → look n v xs ≡ Gone → version_at xs v ≡ None
look_gone zero v [] h = refl
look_gone (suc n) v [] h = refl
look_gone zero v (x ∷ xs) h = absurd (more_gone h)
  where
    more_gone : More x.place ≡ Gone → ⊥
    more_gone k = cc
look_gone (suc n) v (x ∷ xs) h = by_case (nat_le x.number v) h (λ k. look_gone n v xs k)
  where
    by_case : (b : Bool) → cond b (At x) (look n v xs) ≡ Gone → (look n v xs ≡ Gone → version_at xs v ≡ None) → cond b (Some x) (version_at xs v) ≡ None
    by_case true k rest = absurd (at_gone k)
      where
        at_gone : At x ≡ Gone → ⊥
        at_gone e = cc
    by_case false k rest = rest k

pub some_none : (o : Option Version) → is_some o ≡ true → o ≡ None → ⊥
some_none None h is = never h refl
some_none (Some x) h is = cc

pub looked_lower : (doc : Document) (f : Flight) (piece : Piece) (more : List Piece) (zs : List Version) (l : Looked) → f.phase ≡ Pieces → drop (length f.copied) (pieces_at doc.lobs f.row.lob.page) ≡ piece ∷ more
    → versions_from f.node piece ≡ zs → look 8 f.row.lob.version zs ≡ l → (is_some (piece_at piece f.row.lob.version) ≡ true) → ArePlaces (piece.head ∷ piece.older)
    → IsSearch f.row.lob.version f.node piece → IsLower doc (looked doc more f l) f
unfolding IsEnd
looked_lower doc f piece more [] l is left from looks there places search =
    absurd (some_none (piece_at piece f.row.lob.version) there (sym (search_finds f.row.lob.version f.node piece search) ∙ ap (λ (xs : List Version). version_at xs f.row.lob.version) from))
looked_lower doc f piece [] (z ∷ zs) (At x) is left from looks there places search = inl (subst (λ (p : Phase). 1 < rank p) (sym is) (omega arith))
looked_lower doc f piece (q ∷ qs) (z ∷ zs) (At x) is left from looks there places search =
    inr (
      refl,
      subst (λ (p : Phase). left_in p doc (record f { node = None; copied = f.copied ++ part_of x ∷ [] }) < left_in p doc f) (sym is)
          (omega (arith, ap (nodes_left None) (drop_on f.copied (part_of x) (pieces_at doc.lobs f.row.lob.page) (q ∷ qs) piece left), ap (nodes_left f.node) left, ap length from)),
    )
looked_lower doc f piece more (z ∷ zs) (More a) is left from looks there places search =
    let stands = look_more 7 f.row.lob.version a zs (by_case (nat_le z.number f.row.lob.version) looks) in
    let whole = ends_from f.node piece in
    let most = shorter f.row.lob.version a whole.0 z zs (subst ArePlaces (whole.1 ∙ ap (λ (l : List Version). whole.0 ++ l) from) places) stands in
    let size : length (from_place a (piece.head ∷ piece.older)) ≡ length (from_place a (whole.0 ++ (z ∷ zs))) = ap (λ (l : List Version). length (from_place a l)) (whole.1 ∙ ap (λ (l : List Version). whole.0 ++ l) from) in
    inr (
      refl,
      subst (λ (p : Phase). left_in p doc (record f { node = Some a }) < left_in p doc f) (sym is)
          (omega (arith, ap (nodes_left (Some a)) left, ap (nodes_left f.node) left, ap length from, most, size)),
    )
  where
    by_case : (b : Bool) → cond b (At z) (look 7 f.row.lob.version zs) ≡ More a → look 7 f.row.lob.version zs ≡ More a
    by_case true h = absurd (at_more h)
      where
        at_more : At z ≡ More a → ⊥
        at_more e = cc
    by_case false h = h
looked_lower doc f piece more (z ∷ zs) Gone is left from looks there places search =
    absurd (some_none (piece_at piece f.row.lob.version) there (sym (search_finds f.row.lob.version f.node piece search)
    ∙ ap (λ (xs : List Version). version_at xs f.row.lob.version) from ∙ look_gone 8 f.row.lob.version (z ∷ zs) looks))

pub copy_lower : (sees : Sees) (doc : Document) (shown : List Part) (f : Flight) (ps : List Piece) → f.phase ≡ Pieces → drop (length f.copied) (pieces_at doc.lobs f.row.lob.page) ≡ ps
    → AreThere f.row.lob.version ps → IsSearchIn f.row.lob.version f.node ps → IsLower doc (copy_from doc ps f) f
copy_lower sees doc shown f [] is left there search = inl (subst (λ (p : Phase). 1 < rank p) (sym is) (omega arith))
copy_lower sees doc shown f (p ∷ ps) is left there search = looked_lower doc f p ps (versions_from f.node p) _ is left refl refl there.0 there.1 search

-- ---- each event

pub lent_lower : (p : Phase) (doc : Document) (g f : Flight) → g.phase ≡ p → IsUnderWay f.phase → IsLower doc g f → IsLower doc (lent_in p g) f
lent_lower Seek doc g f is under lower = lower
lent_lower (Found n) doc g f is under (inl low) = inl (subst (λ (p : Phase). rank p < rank f.phase) is low)
lent_lower (Found n) doc g f is under (inr same) = absurd (subst IsUnderWay (sym same.0 ∙ is) under)
lent_lower Pieces doc g f is under lower = lower
lent_lower Unpatch doc g f is under lower = lower
lent_lower Ready doc g f is under lower = lower
lent_lower Absent doc g f is under lower = lower

pub step_lower : (p : Phase) (sees : Sees) (doc : Document) (shown : Option (List Part)) (row : Row) (cursor node : Option Address) (copied : List Part) → IsUnderWay p → AreDistinct doc.records
    → AreThere row.lob.version (pieces_at doc.lobs row.lob.page) → IsFlightIn p sees doc shown (record { phase = p; row = row; cursor = cursor; node = node; copied = copied })
    → IsLower doc (step sees doc (record { phase = p; row = row; cursor = cursor; node = node; copied = copied })) (record { phase = p; row = row; cursor = cursor; node = node; copied = copied })
unfolding Sought Walked
step_lower Seek sees doc shown row cursor at copied under distinct there (inl c) = sought_lower (sought 8 sees doc c.passed c.rest c.older c.v row distinct c.visible c.judged)
  where
    along : IsSeen sees row c.rest c.v
    along = subst (λ (w : Row). IsSeen sees w c.rest c.v) (sym c.judged) (seen_from sees doc.row c.passed c.rest c.v c.visible.walk)

    most : (rest : List Entry) → c.rest ≡ rest → IsSeen sees row rest c.v → (seek 8 sees doc row).phase ≡ Seek → length (rest ++ c.older) ≤ length (records_from row.roll doc.records)
    most [] is seen still = absurd (not_seek row.state (sym (ap (λ (f : Flight). f.phase) (seek_seen 8 sees doc row (ap (λ (w : Row). sees w.trx) seen.0 ∙ seen.1))) ∙ still))
      where
        not_seek : (s : RowState) → arrival row s ≡ Seek → ⊥
        not_seek absent h = cc
        not_seek live h = cc
        not_seek deleted h = cc
    most (e ∷ es) is seen still =
        let records : doc.records ≡ c.passed ++ (e ∷ (es ++ c.older)) = c.visible.records ∙ ap (λ (l : List Entry). (c.passed ++ l) ++ c.older) is ∙ append_assoc c.passed (e ∷ es) c.older in
        omega (arith, ap length (ap₂ records_from seen.1 records ∙ from_here c.passed e (es ++ c.older) (subst AreDistinct records distinct)))

    sought_lower : (rank (seek 8 sees doc row).phase < 3) ⊎ (((seek 8 sees doc row).phase ≡ Seek) × (length (records_from (seek 8 sees doc row).row.roll doc.records) + 8 ≤ length (c.rest ++ c.older)))
        → IsLower doc (seek 8 sees doc row) (record { phase = Seek; row = row; cursor = cursor; node = at; copied = copied })
    sought_lower (inl low) = inl low
    sought_lower (inr more) = inr (
      more.0,
      subst (λ (p : Phase). left_in p doc (seek 8 sees doc row) < length (records_from row.roll doc.records)) (sym more.0)
          (omega (arith, more.1, most c.rest refl along more.0)),
    )
step_lower Seek sees doc shown row cursor at copied under distinct there (inr c) =
    inl (subst (λ (f : Flight). rank f.phase < 3) (sym (seek_seen 8 sees doc row c.seen)) (low_arrival row row.state))
step_lower (Found n) sees doc shown row cursor at copied under distinct there c = absurd under
step_lower Pieces sees doc shown row cursor at copied under distinct there c =
    copy_lower sees doc c.0 _ _ refl refl (there_drop row.lob.version (length copied) (pieces_at doc.lobs row.lob.page) there) c.2.search
step_lower Unpatch sees doc shown row cursor at copied under distinct there c = walked_lower (walked 8 sees doc f c.2.newer c.2.rest c.2.older distinct refl c.2.visible c.2.cursor)
  where
    f : Flight
    f = record { phase = Unpatch; row = row; cursor = cursor; node = at; copied = copied }

    along : IsSeen sees (row_behind doc.row c.2.newer) c.2.rest row
    along = seen_from sees doc.row c.2.newer c.2.rest row c.2.visible.walk

    most : (rest : List Entry) → c.2.rest ≡ rest → IsSeen sees (row_behind doc.row c.2.newer) rest row → (walk 8 doc f).phase ≡ Unpatch → length (rest ++ c.2.older) ≤ length (records_from cursor doc.records)
    most [] is seen still = absurd (ready_not (sym (ap (λ (g : Flight). g.phase) (walk_none 8 doc f (c.2.cursor ∙ onward_same row (row_behind doc.row c.2.newer) seen.0))) ∙ still))
      where
        ready_not : Ready ≡ Unpatch → ⊥
        ready_not h = cc
    most (e ∷ es) is seen still =
        let here : cursor ≡ Some e.0 = c.2.cursor ∙ onward_unseen sees row (row_behind doc.row c.2.newer) (seen_row sees (row_behind doc.row c.2.newer) (e ∷ es) row seen) seen.0 ∙ seen.1 in
        let records : doc.records ≡ c.2.newer ++ (e ∷ (es ++ c.2.older)) = c.2.visible.records ∙ ap (λ (l : List Entry). (c.2.newer ++ l) ++ c.2.older) is ∙ append_assoc c.2.newer (e ∷ es) c.2.older in
        omega (arith, ap length (ap₂ records_from here records ∙ from_here c.2.newer e (es ++ c.2.older) (subst AreDistinct records distinct)))

    walked_lower : (rank (walk 8 doc f).phase < 1) ⊎ (((walk 8 doc f).phase ≡ Unpatch) × (length (records_from (walk 8 doc f).cursor doc.records) + 8 ≤ length (c.2.rest ++ c.2.older)))
        → IsLower doc (walk 8 doc f) f
    walked_lower (inl low) = inl low
    walked_lower (inr more) = inr (
      more.0,
      subst (λ (p : Phase). left_in p doc (walk 8 doc f) < length (records_from cursor doc.records)) (sym more.0)
          (omega (arith, more.1, most c.2.rest refl along more.0)),
    )
step_lower Ready sees doc shown row cursor at copied under distinct there c = absurd under
step_lower Absent sees doc shown row cursor at copied under distinct there c = absurd under

-- an event of a read under way brings it to a later phase, or leaves less in the same one
pub event_lower : (sees : Sees) (doc : Document) (shown : Option (List Part)) (f : Flight) → IsUnderWay f.phase → AreDistinct doc.records
    → AreThere f.row.lob.version (pieces_at doc.lobs f.row.lob.page) → IsFlight sees doc shown f → IsLower doc (event_of_read sees doc f) f
event_lower sees doc shown f under distinct there kept =
    lent_lower (step sees doc f).phase doc (step sees doc f) f refl under (step_lower f.phase sees doc shown f.row f.cursor f.node f.copied under distinct there kept)
