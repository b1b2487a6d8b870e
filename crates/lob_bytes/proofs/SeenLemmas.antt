-- The data of a new piece, written where nothing of the LOB stands.
use Rattle.std.proofs.Common.{◌≡◌, ◌≢◌, inl, inr, ℕ, ◌+◌, ◌<◌, ◌≤◌, ◌==◌, List, [], ◌∷◌, ◌++◌, length, map, Option, Some, None, IfNone, IfSome, refl, sym, ap, ◌∙◌, subst, lit≤, arith}
use Rattle.std.proofs.lemmas.Bool.{cases_eq, cases_lt, cond-true, cond-false, eq-eqb, ne_eqb}
use Rattle.std.proofs.lemmas.List.{length-append, length-map}
use Rattle.page_model.specs.Pages.{Pages, Address, bytes_at}
use Rattle.page_model.specs.Spans.{Span, span, IsApartFromAll, AreApart, SameOutside}
use Rattle.page_model.specs.Counts.{one_if, times}
use Rattle.page_model.proofs.CountLemmas.{times_here, times-append}
use Rattle.page_model.proofs.FrameLemmas.{off_part, outside_wider}
use Rattle.page_model.proofs.SpanLemmas.{apart_sym, apart_flip, apart_narrow}
use Rattle.page_model.proofs.WalkLemmas.{outside_again}
use Rattle.engine_base.specs.declared.ids.PageNo.{PageNo}
use Rattle.page_space.specs.Map.{map_spans}
use Rattle.store_data.specs.Store.{Version, Piece, Lob}
use Rattle.store_parts.proofs.CountLemmas.{off_page, apart_on, on_pages}
use Rattle.lob_model.specs.Pieces.{head_place}
use Rattle.lob_model.specs.Places.{whole_page, data_span, first_entries, all_index_entries}
use Rattle.lob_model.specs.Begin.{IsBuilding}
use Rattle.lob_model.specs.Lobs.{IsLobBut, HasData, lob_parts, lob_pages, lob_spans, data_pages}
use Rattle.lob_model.proofs.BeginLemmas.{long_from}
use Rattle.lob_model.proofs.KeptLemmas.{lob_kept, parts_kept, parts_in_pages}
use Rattle.lob_model.proofs.PartLemmas.{data_there, data_elsewhere}
use Rattle.lob_model.proofs.PushLemmas.{fresh_other}
use Rattle.lob_model.proofs.RefillLemmas.{fresh_changed}
use Rattle.lob_index.specs.Use.{AreUsed}
use Rattle.lob_index.specs.Taking.{index_taken, node_taken, CanTakeNode, TakesNode}
use Rattle.lob_index.proofs.UseLemmas.{used_taken}
use Rattle.lob_bytes.specs.Growth.{IsNext, first_version, data_taken, data_list, data_place, CanAddPiece, TakesData, WritesData}
use Rattle.lob_bytes.proofs.UnseenLemmas.{length_unseen, data_off}

-- ---- before the node is taken

-- while a LOB is built, all its entries are heads or free
long_all : (lob : Lob) → IsBuilding lob → 10 ≤ length lob.pieces + length lob.free
long_all lob is =
    let L : List Address → ℕ = λ xs. length xs in
    let e = ap L is.entries in
    omega (
      arith,
      e,
      length-append (map head_place lob.pieces) lob.free,
      length-map lob.pieces head_place,
      length-append (first_entries lob.page) (all_index_entries lob.index),
      long_from lob.page 96 10,
    )

zero_off : (ns : List ℕ) (n : ℕ) → times 0 ns ≡ 0 → 1 ≤ times n ns → times n (0 ∷ []) ≡ 0
zero_off ns n none some = elim (cases_eq 0 n) [
  | inl same ↦ absurd (let e : times 0 ns ≡ times n ns = ap (λ (k : ℕ). times k ns) same in omega (arith, e, none, some))
  | inr other ↦ let e : one_if (0 == n) ≡ 0 = ap one_if (ne_eqb 0 n other) in omega (arith, e)
]

used_part : (ns ms : List ℕ) (pages : Pages) → AreUsed pages (ns ++ ms) → AreUsed pages ms
used_part ns ms pages is = record {
  system = is.system;
  other = let t = times-append 0 ns ms in let o = is.other in omega (arith, t, o);
  each = λ n some. is.each n (let t = times-append n ns ms in omega (arith, t, some));
}

data_need : (ps : List Piece) (taken : Option PageNo) → IfNone taken (ps ≡ []) → IfSome taken (λ page. 1 ≤ length ps) → length (data_taken 0 ps) ≡ length (data_list taken)
data_need ps None none some = ap (λ (xs : List Piece). length (data_taken 0 xs)) none
data_need [] (Some page) none some = absurd (omega (arith, some))
data_need (p ∷ ps) (Some page) none some = refl

-- where a piece may be added and its data's page was taken, a node may be taken
pub can_take : (p0 p1 : Pages) (lob : Lob) (taken : Option PageNo) (bytes : List ℕ) (r r1 : ℕ) → CanAddPiece r bytes p0 lob → TakesData lob taken r r1 p0 p1 → CanTakeNode r1 p1 lob
can_take p0 p1 lob taken bytes r r1 can td =
    let own = lob_pages lob in
    let used = used_taken own (data_list taken) p0 p1 can.used td.takes in
    let long = long_all lob can.building in
    let L : List Address → ℕ = λ xs. length xs in
    let I : List Address → ℕ = λ xs. length (index_taken 0 xs) in
    record {
      lob' = lob_kept map_spans p0 p1 lob td.outside (apart_on (0 ∷ []) own map_spans (lob_spans lob) (λ n some. zero_off own n can.used.other some) (times_here 0 [], (times_here 0 [], tt)) (on_pages own)) can.lob';
      map = td.takes.map;
      used = used_part (data_list taken) own p1 used;
      begun = λ free. (let e = ap L free in omega (arith, e, long));
      reserve = λ free. (let e = ap I free in let s = td.spent in let q = can.reserve in let d = data_need lob.pieces taken td.none td.some in let parts = length-append (data_taken 0 lob.pieces) (index_taken 0 lob.free) in omega (arith, e, s, q, d, parts));
      covered = let f = td.takes.fewer in let s = td.spent in let c = can.covered in omega (arith, f, s, c);
    }

-- ---- the data

pub record Seen (p2 p3 : Pages) (l : Lob) (node : Address) (d : ℕ) (ns : List ℕ) (x : Version) : Type 0 where
  pub seen : IsLobBut p3 l (node ∷ [])
  pub there : HasData p3 l.page x
  pub room : IsApartFromAll (lob_parts l (node ∷ [])) (data_span l.page x)
  pub outside : SameOutside (whole_page d ∷ []) p2 p3
  pub pages : (n : ℕ) → times n (data_pages l.page (x ∷ [])) ≡ times n ns

pub index_once : (page : ℕ) (free : List Address) (n : ℕ) → times n (index_taken page free) ≤ 1
index_once page [] n = elim (cases_eq page n) [
  | inl same ↦ let e : one_if (page == n) ≡ 1 = ap one_if (eq-eqb page n same) in omega (arith, e)
  | inr other ↦ let e : one_if (page == n) ≡ 0 = ap one_if (ne_eqb page n other) in omega (arith, e)
]
index_once page (a ∷ more) n = omega arith

pub taken_times : (lob : Lob) (page : ℕ) (rest : List Address) (n : ℕ) → times n (lob_pages (node_taken page rest lob)) ≡ times n (index_taken page lob.free) + times n (lob_pages lob)
taken_times lob page rest n = by lob.free
  where
    by : (xs : List Address) → times n (lob_pages (record lob { index = index_taken page xs ++ lob.index; free = rest })) ≡ times n (index_taken page xs) + times n (lob_pages lob)
    by [] = omega arith
    by (x ∷ xs) = omega arith

flip_back : (s : Span) (ts : List Span) → AreApart (s ∷ []) ts → IsApartFromAll ts s
flip_back s [] apart = tt
flip_back s (t ∷ ts) apart = (apart_sym s t apart.0.0, flip_back s ts apart.1)

pub first_short : (bytes : List ℕ) (ps : List Piece) → ps ≡ [] → IsNext 15_680 16_327 ps bytes → length bytes ≤ 15_680
first_short bytes ps none next = let P : List Piece → Type 0 = λ qs. IsNext 15_680 16_327 qs bytes in subst P none next

pub seen_first : (p2 p3 : Pages) (l : Lob) (node : Address) (trx : ℕ) (bytes : List ℕ) → l.pieces ≡ [] → length bytes ≤ 15_680 → IsLobBut p2 l (node ∷ []) → WritesData l.page None trx bytes p2 p3 → Seen p2 p3 l node l.page [] (first_version l.page node l.page trx bytes)
seen_first p2 p3 l node trx bytes none short stands wd =
    let x = first_version l.page node l.page trx bytes in
    let first = l.page in
    let e = data_there first x refl in
    let parts = lob_parts l (node ∷ []) in
    let room0 = data_off l (node ∷ []) none stands.shape in
    let seen1 = length_unseen p2 wd.mid l (node ∷ []) (length bytes) stands wd.size in
    let xs = span first 696 (length bytes) ∷ [] in
    let ws = whole_page first ∷ [] in
    record {
      seen = parts_kept xs wd.mid p3 l (node ∷ []) wd.outside (apart_narrow first 696 15_680 696 (length bytes) parts (omega arith) (omega (arith, short)) (apart_flip parts (span first 696 15_680) room0)) seen1;
      there = record {
        place = refl;
        fits = let f = e.1 in omega (arith, f, short);
        bytes = ap (λ (k : ℕ). bytes_at p3 first k (length bytes)) e.0 ∙ wd.here;
        type' = inl refl;
      };
      room = subst (IsApartFromAll parts) (sym e.2) room0;
      outside = outside_again ws p2 wd.mid p3 (outside_wider (span first 54 4 ∷ []) ws p2 wd.mid (λ n k off. (off_part first 0 16_384 54 4 n k (lit≤ tt) (lit≤ tt) off.0, tt)) wd.size.outside)
          (outside_wider xs ws wd.mid p3 (λ n k off. (off_part first 0 16_384 696 (length bytes) n k (omega arith) (omega (arith, short)) off.0, tt)) wd.outside);
      pages = λ n. ap (times n) (cond-true (first == first) [] (first ∷ []) (eq-eqb first first refl));
    }

pub seen_other : (p2 p3 : Pages) (l : Lob) (node : Address) (page : PageNo) (trx : ℕ) (bytes : List ℕ) → times page.0 (lob_pages l) ≡ 0 → page.0 < length p2 → length bytes ≤ 16_327 → IsLobBut p2 l (node ∷ []) → WritesData l.page (Some page) trx bytes p2 p3
    → Seen p2 p3 l node page.0 (page.0 ∷ []) (first_version l.page node page.0 trx bytes)
seen_other p2 p3 l node page trx bytes none low short stands wd =
    let d = page.0 in
    let x = first_version l.page node d trx bytes in
    let fresh = off_page (lob_pages l) (lob_spans l) (whole_page d) (on_pages (lob_pages l)) none in
    let other : d ≢ l.page = fresh_other l d fresh in
    let e = data_elsewhere l.page x other in
    let parts = lob_parts l (node ∷ []) in
    record {
      seen = fresh_changed p2 p3 l (node ∷ []) d stands fresh wd.outside;
      there = record {
        place = refl;
        fits = let f = e.1 in omega (arith, f, short);
        bytes = ap (λ (k : ℕ). bytes_at p3 d k (length bytes)) e.0 ∙ wd.bytes';
        type' = inr wd.here;
      };
      room = subst (IsApartFromAll parts) (sym e.2) (flip_back (whole_page d) parts (parts_in_pages (whole_page d ∷ []) l (node ∷ []) stands.shape.places (apart_flip (lob_spans l) (whole_page d) fresh)));
      outside = wd.outside;
      pages = λ n. ap (times n) (cond-false (d == l.page) [] (d ∷ []) (ne_eqb d l.page other));
    }

next_short : (bytes : List ℕ) (room : ℕ) (ps : List Piece) → 1 ≤ length ps → IsNext room 16_327 ps bytes → length bytes ≤ 16_327
next_short bytes room [] some next = absurd (omega (arith, some))
next_short bytes room (p ∷ []) some next = next.1
next_short bytes room (p ∷ q ∷ ps) some next = next_short bytes 16_327 (q ∷ ps) (omega arith) next.1

-- the data are written where nothing of the LOB stands
pub seen_of : (p0 p1 p2 p3 : Pages) (lob : Lob) (taken : Option PageNo) (trx : ℕ) (bytes : List ℕ) (r r1 r2 : ℕ) (node : Address) → CanAddPiece r bytes p0 lob → TakesData lob taken r r1 p0 p1 → (tn : TakesNode lob node r1 r2 p1 p2) → WritesData lob.page taken trx bytes p2 p3
    → Seen p2 p3 (node_taken tn.page tn.rest lob) node (data_place lob.page taken) (data_list taken) (first_version lob.page node (data_place lob.page taken) trx bytes)
seen_of p0 p1 p2 p3 lob None trx bytes r r1 r2 node can td tn wd = seen_first p2 p3 (node_taken tn.page tn.rest lob) node trx bytes td.none (first_short bytes lob.pieces td.none can.next) tn.lob' wd
seen_of p0 p1 p2 p3 lob (Some page) trx bytes r r1 r2 node can td tn wd =
    let d = page.0 in
    let here = times_here d [] in
    let not_own : times d (lob_pages lob) ≡ 0 = elim (cases_lt 0 (times d (lob_pages lob))) [
      | inl some ↦ absurd (let u = can.used.each d (omega (arith, some)) in let f = td.takes.free d here in omega (arith, u, f))
      | inr zero ↦ omega (arith, zero)
    ] in
    let not_index : times d (index_taken tn.page lob.free) ≡ 0 = elim (cases_lt 0 (times d (index_taken tn.page lob.free))) [
      | inl some ↦ absurd (let u = td.takes.used d here in let f = tn.takes.free d (omega (arith, some)) in omega (arith, u, f))
      | inr zero ↦ omega (arith, zero)
    ] in
    let none : times d (lob_pages (node_taken tn.page tn.rest lob)) ≡ 0 = (let t = taken_times lob tn.page tn.rest d in omega (arith, t, not_own, not_index)) in
    let low : d < length p2 = (let t = td.takes.there d here in let a = td.outside.many in let b = tn.outside.many in omega (arith, t, a, b)) in
    seen_other p2 p3 (node_taken tn.page tn.rest lob) node page trx bytes none low (next_short bytes 15_680 lob.pieces td.some can.next) tn.lob' wd
