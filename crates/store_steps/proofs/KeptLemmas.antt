-- What stays of a LOB where a part of it goes, or a version of one of its pieces.
use Rattle.std.proofs.Common.{◌≡◌, ℕ, zero, suc, List, [], ◌∷◌, length, map, Option, Some, None, refl, sym, ap, ◌∙◌}
use Rattle.std.specs.Option.{option_map}
use Rattle.page_model.specs.Pages.{Address}
use Rattle.store_data.specs.Pieces.{all_but_last, popped_to, popped}
use Rattle.store_data.specs.Store.{Version, Piece, Lob}
use Rattle.lob_model.specs.Begin.{HaveNoOlder}
use Rattle.lob_model.specs.Pieces.{head_place}
use Rattle.lob_index.specs.Heads.{nth}
use Rattle.undo_model.proofs.OptionLemmas.{some_some, not_some}
use Rattle.store_model.specs.Lobs.{lob_of}
use Rattle.store_model.specs.Steps.{on_lob, on_piece}
use Rattle.store_model.proofs.LobLemmas.{lob-on_this}
use Rattle.store_steps.specs.declared.reached.Reached.{Reached}
use Rattle.store_steps.specs.Reached.{piece_in, IsHeadAt}

-- the pieces in front of the last one have no older versions where none has
pub none_older_front : (ps : List Piece) → HaveNoOlder ps → HaveNoOlder (all_but_last ps)
none_older_front [] none = tt
none_older_front (p ∷ []) none = tt
none_older_front (p ∷ q ∷ ps) none = (none.0, none_older_front (q ∷ ps) none.1)

-- a LOB that is found behind a change of it was found before
pub found_before : (page : ℕ) (f : Lob → Lob) (lobs : List Lob) (m : Lob)
    → ((l : Lob) → (f l).page ≡ l.page) → lob_of (on_lob page f lobs) page ≡ Some m
    → (l : Lob) × (lob_of lobs page ≡ Some l) × (f l ≡ m)
found_before page f lobs m same found =
    by (lob_of lobs page) refl (sym (lob-on_this page f lobs same) ∙ found)
  where
    by : (o : Option Lob) → lob_of lobs page ≡ o → option_map f o ≡ Some m
        → (l : Lob) × (lob_of lobs page ≡ Some l) × (f l ≡ m)
    by None is e = absurd (not_some m e)
    by (Some l) is e = (l, is, some_some (f l) m e)

-- ---- one piece changes

pub length_on : (k : ℕ) (f : Piece → Piece) (ps : List Piece)
    → length (on_piece k f ps) ≡ length ps
length_on zero f [] = refl
length_on (suc k) f [] = refl
length_on zero f (p ∷ ps) = refl
length_on (suc k) f (p ∷ ps) = ap suc (length_on k f ps)

-- the heads stay in their places
pub heads_on : (k : ℕ) (f : Piece → Piece) (ps : List Piece)
    → ((p : Piece) → head_place (f p) ≡ head_place p)
    → map head_place (on_piece k f ps) ≡ map head_place ps
heads_on zero f [] same = refl
heads_on (suc k) f [] same = refl
heads_on zero f (p ∷ ps) same = ap (λ (a : Address). a ∷ map head_place ps) (same p)
heads_on (suc k) f (p ∷ ps) same =
    ap (λ (places : List Address). head_place p ∷ places) (heads_on k f ps same)

pub head_popped : (p : Piece) → head_place (popped p) ≡ head_place p
head_popped p = by p.older
  where
    by : (vs : List Version) → head_place (popped_to p.head.place vs p) ≡ p.head.place
    by [] = refl
    by (v ∷ vs) = refl

-- ---- the piece that was reached last

pub head_stays : (last : Option Reached) (l m : Lob)
    → map head_place m.pieces ≡ map head_place l.pieces → IsHeadAt last l → IsHeadAt last m
head_stays None l m same at = tt
head_stays (Some r) l m same at = at ∙ ap (nth r.piece) (sym same)

pub none_reached : (last : Option Reached) → piece_in last ≡ None → last ≡ None
none_reached None is = refl
none_reached (Some r) is = absurd (not_some r.piece (sym is))
