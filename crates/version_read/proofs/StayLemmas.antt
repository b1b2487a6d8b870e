-- What was lent to a read fits on behind the events of others.
use Rattle.std.proofs.Common.{◌≡◌, ◌≢◌, ℕ, suc, ◌≤◌, ◌==◌, Bool, true, false, nat_le, List, [], ◌∷◌, ◌++◌, length, map, Option, Some, None, IfSome, refl, sym, ap, ap₂, subst, ◌∙◌, arith, length-append, if◌then◌else◌}
use Rattle.std.proofs.lemmas.List.{length-map}
use Rattle.page_model.specs.Pages.{Address}
use Rattle.engine_base.specs.Addresses.{address_of}
use Rattle.store_data.specs.Store.{Version, Piece, Lob, Run, Store}
use Rattle.store_data.specs.Pieces.{Part, part_of, version_at, piece_at}
use Rattle.store_model.specs.Lobs.{lob_of, pieces_of}
use Rattle.store_model.specs.Runs.{bytes_laid, laid, all_laid}
use Rattle.store_model.specs.Consistent.{IsConsistent}
use Rattle.store_model.specs.Heads.{head_places, AreFirst, KeepHeads}
use Rattle.store_model.proofs.ThereLemmas.{OffZero, AllOffZero, data_off_zero}
use Rattle.lob_model.specs.Pieces.{joined, lob_at, head_place}
use Rattle.lob_index.specs.Heads.{nth}
use Rattle.read_model.specs.Patches.{Entry, runs, back}
use Rattle.read_model.specs.Document.{Sees, part_or, part_at, pieces_at, parts_at}
use Rattle.read_model.specs.Flight.{IsFlightIn, IsFlight, IsCopying}
use Rattle.read_model.proofs.PatchLemmas.{laid_page}
use Rattle.read_views.specs.Flights.{flight_of, phase_of, row_read, KeepsPlaces}
use Rattle.read_views.specs.declared.flight.Flight.{Flight}
use Rattle.read_views.specs.declared.flight.Phase.{Phase}
use Rattle.read_views.specs.declared.flight.Phase.TheVariants.{Pieces}
use Rattle.version_read.specs.Lent.{IsLent}
use Rattle.version_read.specs.Reads.{document_of}
use Rattle.version_read.proofs.LentLemmas.{Splits, splits}

-- ---- old bytes leave the page and the length of a part

laid_long : (r : Run) (place : ℕ) (bs : List ℕ) → length (bytes_laid r place bs) ≡ length bs
laid_long r place [] = refl
laid_long r place (b ∷ bs) = ap suc (laid_long r (suc place) bs)

one_long : (r : Run) (x : Part) → length (laid r x).bytes ≡ length x.bytes
one_long r x = by_test (x.page == r.page)
  where
    by_test : (b : Bool) → length (if b then bytes_laid r x.at x.bytes else x.bytes) ≡ length x.bytes
    by_test true = laid_long r x.at x.bytes
    by_test false = refl

all_long : (rs : List Run) (x : Part) → length (all_laid rs x).bytes ≡ length x.bytes
all_long [] x = refl
all_long (r ∷ rs) x = all_long rs (laid r x) ∙ one_long r x

back_page : (es : List Entry) (x : Part) → (back es x).page ≡ x.page
back_page [] x = refl
back_page (e ∷ es) x = back_page es (all_laid (runs e) x) ∙ laid_page (runs e) x

back_long : (es : List Entry) (x : Part) → length (back es x).bytes ≡ length x.bytes
back_long [] x = refl
back_long (e ∷ es) x = back_long es (all_laid (runs e) x) ∙ all_long (runs e) x

-- ---- a version that was found is found again

off_zero_at : (v : ℕ) (xs : List Version) (x : Version) → OffZero xs → version_at xs v ≡ Some x → x.page ≢ 0
off_zero_at v [] x off found = absurd (cc found)
off_zero_at v (y ∷ ys) x off found = by_test (nat_le y.number v) found (off_zero_at v ys x off.1)
  where
    by_test : (b : Bool) → (if b then Some y else version_at ys v) ≡ Some x → (version_at ys v ≡ Some x → x.page ≢ 0) → x.page ≢ 0
    by_test true found rest = let same : y ≡ x = cc found in subst (λ (z : Version). z.page ≢ 0) same off.0
    by_test false found rest = rest found

record Again (v : ℕ) (qs : List Piece) (n : ℕ) : Type 0 where
  bytes : List ℕ
  is : lob_at v qs ≡ Some bytes
  long : length bytes ≡ n

found_again : (v : ℕ) (es fs : List Entry) (ps qs : List Piece) (bytes : List ℕ) → lob_at v ps ≡ Some bytes → AllOffZero ps
    → map (back es) (map (part_at v) ps) ≡ map (back fs) (map (part_at v) qs) → Again v qs (length bytes)
found_again v es fs [] [] bytes whole off same = record { bytes = []; is = refl; long = (let e : [] ≡ bytes = cc whole in ap length e) }
found_again v es fs [] (q ∷ qs) bytes whole off same = absurd (cc same)
found_again v es fs (p ∷ ps) [] bytes whole off same = absurd (cc same)
found_again v es fs (p ∷ ps) (q ∷ qs) bytes whole off same =
    let s = splits (piece_at p v) (lob_at v ps) bytes whole in
    let first : back es (part_at v p) ≡ back fs (part_at v q) = cc same in
    let old : back es (part_of s.x) ≡ back fs (part_at v q) = ap (λ (o : Option Version). back es (part_or o)) (sym s.is) ∙ first in
    by_found s old (found_again v es fs ps qs s.rest s.left off.1 (cc same)) (piece_at q v) refl
  where
    by_found : (s : Splits (piece_at p v) (lob_at v ps) bytes) → back es (part_of s.x) ≡ back fs (part_at v q) → Again v qs (length s.rest)
        → (o : Option Version) → piece_at q v ≡ o → Again v (q ∷ qs) (length bytes)
    by_found s old rest None none =
        let page : s.x.page ≡ 0 = sym (back_page es (part_of s.x)) ∙ ap (λ (x : Part). x.page) old ∙ back_page fs (part_at v q) ∙ ap (λ (o : Option Version). (part_or o).page) none in
        absurd (off_zero_at v (p.head ∷ p.older) s.x off.0 s.is page)
    by_found s old rest (Some y) there =
        let long : length s.x.bytes ≡ length y.bytes = sym (back_long es (part_of s.x)) ∙ ap (λ (x : Part). length x.bytes) old ∙ back_long fs (part_at v q) ∙ ap (λ (o : Option Version). length (part_or o).bytes) there in
        let a = length-append y.bytes rest.bytes in
        let b = length-append s.x.bytes s.rest in
        let r = rest.long in
        record {
          bytes = y.bytes ++ rest.bytes;
          is = ap₂ joined there rest.is;
          long = (let whole_long : length bytes ≡ length (s.x.bytes ++ s.rest) = ap length s.both in omega (arith, a, b, r, long, whole_long));
        }

-- ---- heads

places_are : (ps : List Piece) → head_places ps ≡ map head_place ps
places_are [] = refl
places_are (p ∷ ps) = ap (λ (xs : List Address). p.head.place ∷ xs) (places_are ps)

first_equal : (xs ys : List Address) → length xs ≡ length ys → AreFirst xs ys → ys ≡ xs
first_equal [] [] long first = refl
first_equal [] (y ∷ ys) long first = absurd (cc long)
first_equal (x ∷ xs) [] long first = absurd (cc long)
first_equal (x ∷ xs) (y ∷ ys) long first = ap₂ (λ (z : Address) (zs : List Address). z ∷ zs) first.0 (first_equal xs ys (cc long) first.1)

-- ---- what was lent

module _ (old new : Store) (sees : Sees) (shown : Option (List Part)) (f g : Flight) (all : IsConsistent old) (phase_is : f.phase ≡ Pieces) (lent : IsLent old.lobs f)
    (was : IsFlight sees (document_of old f) shown (flight_of f)) (now : IsFlight sees (document_of new f) shown (flight_of g)) (keeps : KeepsPlaces f g)
    (row_is : row_read g.row ≡ row_read f.row) (heads : KeepHeads old.lobs new.lobs) (some : shown ≢ Some []) (start : g.head ≡ None → g.node ≡ None) where
  abbrev page : ℕ
  page = (row_read f.row).lob.page

  abbrev v : ℕ
  v = (row_read f.row).lob.version

  copying_was : (parts : List Part) × (shown ≡ Some parts) × IsCopying sees (document_of old f) parts (flight_of f)
  copying_was = subst (λ (ph : Phase). IsFlightIn (phase_of ph) sees (document_of old f) shown (flight_of f)) phase_is was

  copying_now : (parts : List Part) × (shown ≡ Some parts) × IsCopying sees (document_of new f) parts (flight_of g)
  copying_now = subst (λ (ph : Phase). IsFlightIn (phase_of ph) sees (document_of new f) shown (flight_of g)) (keeps.phase ∙ phase_is) now

  -- as many pieces as are shown, before and behind
  same_parts : map (back copying_was.2.above) (map (part_at v) (pieces_at old.lobs page)) ≡ map (back copying_now.2.above) (map (part_at v) (pieces_at new.lobs page))
  same_parts =
      let one : copying_was.0 ≡ copying_now.0 = cc (sym copying_was.1 ∙ copying_now.1) in
      copying_was.2.holds ∙ one ∙ sym copying_now.2.holds
      ∙ ap (λ r. map (back copying_now.2.above) (parts_at new.lobs r.lob)) row_is

  lob_page : (lobs : List Lob) (n : ℕ) (l : Lob) → lob_of lobs n ≡ Some l → l.page ≡ n
  lob_page [] n l is = absurd (cc is)
  lob_page (m ∷ ms) n l is = by_test (m.page == n) refl is (lob_page ms n l)
    where
      by_test : (b : Bool) → (m.page == n) ≡ b → (if b then Some m else lob_of ms n) ≡ Some l → (lob_of ms n ≡ Some l → l.page ≡ n) → l.page ≡ n
      by_test true e is rest = let one : m ≡ l = cc is in ap (λ (x : Lob). x.page) (sym one) ∙ (let same : m.page ≡ n = grind (arith, e) in same)
      by_test false e is rest = rest is

  old_pieces : pieces_at old.lobs page ≡ lent.lob.pieces
  old_pieces = ap pieces_of lent.found

  by_lob : (o : Option Lob) → lob_of new.lobs page ≡ o → IsLent new.lobs g
  by_lob None none =
      let nothing : map (back copying_now.2.above) (map (part_at v) (pieces_at new.lobs page)) ≡ [] = ap (λ (o : Option Lob). map (back copying_now.2.above) (map (part_at v) (pieces_of o))) none in
      absurd (some (copying_was.1 ∙ ap (λ (ps : List Part). Some ps) (sym copying_was.2.holds ∙ same_parts ∙ nothing)))
  by_lob (Some m) there =
      let same : map (back copying_was.2.above) (map (part_at v) lent.lob.pieces) ≡ map (back copying_now.2.above) (map (part_at v) m.pieces) =
      ap (λ (ps : List Piece). map (back copying_was.2.above) (map (part_at v) ps)) (sym old_pieces) ∙ same_parts ∙ ap (λ (o : Option Lob). map (back copying_now.2.above) (map (part_at v) (pieces_of o))) there in
      let again = found_again v copying_was.2.above copying_now.2.above lent.lob.pieces m.pieces lent.bytes lent.whole
      (data_off_zero old page lent.lob all lent.found (lob_page old.lobs page lent.lob lent.found)) same in
      let many : length lent.lob.pieces ≡ length m.pieces =
      sym (length-map (map (part_at v) lent.lob.pieces) (back copying_was.2.above) ∙ length-map lent.lob.pieces (part_at v)) ∙ ap length same
      ∙ length-map (map (part_at v) m.pieces) (back copying_now.2.above) ∙ length-map m.pieces (part_at v) in
      let places : map head_place m.pieces ≡ map head_place lent.lob.pieces =
      sym (places_are m.pieces)
      ∙ first_equal (head_places lent.lob.pieces) (head_places m.pieces)
      (ap length (places_are lent.lob.pieces) ∙ length-map lent.lob.pieces head_place ∙ many ∙ sym (length-map m.pieces head_place) ∙ ap length (sym (places_are m.pieces)))
      (heads page lent.lob m lent.found there)
      ∙ places_are lent.lob.pieces in
      record {
        lob = m;
        found = ap (λ r. lob_of new.lobs r.lob.page) row_is ∙ there;
        bytes = again.bytes;
        whole = ap (λ r. lob_at r.lob.version m.pieces) row_is ∙ again.is;
        room = keeps.buffer ∙ lent.room ∙ sym again.long;
        places = ap (λ x. length x.items) keeps.from ∙ lent.places ∙ many;
        copied = subst (λ (n : ℕ). n ≤ length m.pieces) (sym keeps.piece) (subst (λ (n : ℕ). f.piece ≤ n) many lent.copied);
        head = subst (λ h. IfSome h (λ a. nth g.piece (map head_place m.pieces) ≡ Some (address_of a))) (sym keeps.head)
            (subst (λ (n : ℕ). IfSome f.head (λ a. nth n (map head_place m.pieces) ≡ Some (address_of a))) (sym keeps.piece)
            (subst (λ (xs : List Address). IfSome f.head (λ a. nth f.piece xs ≡ Some (address_of a))) (sym places) lent.head));
        start = start;
      }

pub lent_stays : (old new : Store) (sees : Sees) (shown : Option (List Part)) (f g : Flight) → IsConsistent old → f.phase ≡ Pieces → IsLent old.lobs f
    → IsFlight sees (document_of old f) shown (flight_of f) → IsFlight sees (document_of new f) shown (flight_of g) → KeepsPlaces f g → row_read g.row ≡ row_read f.row
    → KeepHeads old.lobs new.lobs → shown ≢ Some [] → (g.head ≡ None → g.node ≡ None) → IsLent new.lobs g
lent_stays old new sees shown f g all phase_is lent was now keeps row_is heads some start =
    by_lob old new sees shown f g all phase_is lent was now keeps row_is heads some start (lob_of new.lobs (row_read f.row).lob.page) refl
