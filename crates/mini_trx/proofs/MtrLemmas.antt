-- What the calls of a mini-transaction leave.
use Rattle.std.proofs.Common.{◌≡◌, ◌⊎◌, inl, inr, ℕ, ◌+◌, ◌<◌, ◌≤◌, ◌==◌, true, false, IsTrue, List, [], ◌∷◌, ◌++◌, length, take, drop, map, get_or, slice_set, All, Option, Some, None, IfSome, refl, sym, ap, ap₂, subst, ◌∙◌, arith}
use Rattle.std.specs.Option.{option_map}
use Rattle.std.proofs.lemmas.List.{append-nil, map-append, length-append}
use Rattle.std.proofs.lemmas.List.Elements.{All-weaker, All-tail}
use Rattle.std.proofs.lemmas.Bool.{cases_Bool, or_cases, eqb-true}
use Rattle.std.proofs.Math.Seq.{map-set_same}
use Rattle.page_model.specs.Pages.{Pages, page_at, bytes_at, patched, written, Write, all_written}
use Rattle.page_model.specs.Steps.{PageState, MayUse, among, different, IsWithin, Touches, max_pins, whole_room}
use Rattle.page_model.proofs.StepLemmas.{within_both, within_right, within_one}
use Rattle.mini_trx.specs.Copies.{PageCopy, page_copy, page_of}
use Rattle.mini_trx.specs.Pins.{IsPlace}
use Rattle.page_model.specs.Frames.{frame_bytes, writes_bytes, write, write_bytes, head_bytes}
use Rattle.mini_trx.specs.Caches.{CacheState, KeepsPages, IsCoherent, Begins, mtr_state}
use Rattle.mini_trx.specs.Mtrs.{PinsAtMost}
use Rattle.page_model.proofs.GroupFrameLemmas.{length-frame, writes_more, length-head}
use Rattle.mini_trx.proofs.CoherenceLemmas.{coherent_kept, coherent_pinned, all_written_push}

-- ---- pinning

-- no page more is lent
pub pins_none : (page : ℕ) (c d : CacheState) (copies : List PageCopy) → KeepsPages c d → d.lent ≤ c.lent → PinsAtMost page c d copies copies
pins_none page c d copies keeps fewer = record {
  coherent = λ ws is. coherent_kept c d copies ws is keeps fewer;
  pages = within_right (page ∷ []) (map page_of copies);
}

-- one page more is lent
pub pins_one : (page : ℕ) (c d : CacheState) (copies new : List PageCopy) (frame : List ℕ) → new ≡ copies ++ page_copy page frame ∷ [] → KeepsPages c d → d.lent ≤ c.lent + 1
    → among (map page_of copies) page ≡ false → IsTrue (d.holds page) → IfSome c.told (λ pages. frame ≡ page_at pages page) → PinsAtMost page c d copies new
pins_one page c d copies new frame is keeps lent other held copy =
    let all = copies ++ page_copy page frame ∷ [] in
    let P : List PageCopy → Type 0 = λ xs. PinsAtMost page c d copies xs in
    let Q : List ℕ → Type 0 = λ ns. IsWithin ns (page ∷ map page_of copies) in
    subst P (sym is) (record {
      coherent = λ ws coherent. coherent_pinned c d copies ws page frame coherent keeps lent other held copy;
      pages = subst Q (sym (map-append page_of copies (page_copy page frame ∷ [])))
          (within_both (map page_of copies) (page ∷ []) (page ∷ map page_of copies) (within_right (page ∷ []) (map page_of copies)) (within_one page (map page_of copies)));
    })

-- a page may be pinned where it is or another is left
pub may_pin : (page : ℕ) (pages : List ℕ) → different (page ∷ pages) + 0 ≤ max_pins → different pages ≡ length pages → (among pages page ≡ true) ⊎ (length pages < max_pins)
may_pin page pages few apart = elim (cases_Bool (among pages page)) [
  | inl is ↦ inl is
  | inr not ↦ inr (let e = rw not at few in omega (arith, e, apart))
]

-- ---- reading

pub read_copy : (told : Option Pages) (ws : List Write) (copies : List PageCopy) (i page at n : ℕ) (into : List ℕ) → ((pages : Pages) → told ≡ Some pages → All (λ copy. copy.bytes ≡ page_at (all_written ws pages) copy.page) copies)
    → IsPlace i page copies → into ≡ take n (drop at (get_or copies i (page_copy 0 [])).bytes) → IfSome (option_map (all_written ws) told) (λ pages. into ≡ bytes_at pages page at n)
read_copy None ws copies i page at n into bytes place is = tt
read_copy (Some pages) ws copies i page at n into bytes place is =
    is ∙ ap (λ (q : List ℕ). take n (drop at q)) (bytes pages refl i (page_copy 0 []) place.below ∙ ap (page_at (all_written ws pages)) (place.holds (page_copy 0 [])))

-- ---- writing

-- with a write more, what is told is what was told with that write made
pub told_written : (old new : Option Pages) (ws vs : List Write) (page at : ℕ) (bytes : List ℕ) → new ≡ old → vs ≡ ws ++ write page at bytes ∷ []
    → option_map (all_written vs) new ≡ option_map (λ pages. written pages page at bytes) (option_map (all_written ws) old)
told_written old new ws vs page at bytes same more =
    ap₂ (λ (us : List Write) (o : Option Pages). option_map (all_written us) o) more same ∙ pushed old
  where
    pushed : (o : Option Pages) → option_map (all_written (ws ++ write page at bytes ∷ [])) o ≡ option_map (λ pages. written pages page at bytes) (option_map (all_written ws) o)
    pushed None = refl
    pushed (Some pages) = ap Some (all_written_push ws (write page at bytes) pages)

-- with a write more, a frame is longer by the write's bytes and 8
pub length-frame_push : (ws : List Write) (w : Write) → length (frame_bytes (ws ++ w ∷ [])) ≡ length (frame_bytes ws) + (8 + length w.bytes)
length-frame_push ws w =
    let l = ap length (writes_more ws w) ∙ length-append (writes_bytes ws) (write_bytes w) in
    omega (arith, length-frame (ws ++ w ∷ []), length-frame ws, l, length-append (write_bytes w) [], length-write w)
  where
    length-write : (w : Write) → length (write_bytes w) ≡ 8 + length w.bytes
    length-write w = omega (arith, length-append (head_bytes w) w.bytes, length-head w)

-- the pages of copies, one of which is written over
pub pages_patched : (copies new : List PageCopy) (i at : ℕ) (bytes : List ℕ) → (let copy = get_or copies i (page_copy 0 []) in new ≡ slice_set copies i (page_copy copy.page (patched copy.bytes at bytes)))
    → map page_of new ≡ map page_of copies
pages_patched copies new i at bytes is =
    let copy = get_or copies i (page_copy 0 []) in
    ap (map page_of) is ∙ map-set_same page_of copies i (page_copy copy.page (patched copy.bytes at bytes)) (page_copy 0 []) refl

-- a call that pinned this page, and else only pages pinned before, touched it alone
pub touches_pinned : (page : ℕ) (old new : List ℕ) → IsWithin new (page ∷ old) → Touches (page ∷ []) 0 old new
touches_pinned page old new within = record { others = []; few = omega arith; within = within }

-- ---- the end

-- the cache holds each page that is written
pub held_writes : (c : CacheState) (copies : List PageCopy) (ws : List Write) → IsCoherent c copies ws → All (λ w. IsTrue (c.holds w.page)) ws
held_writes c copies ws is =
    All-weaker (λ (w : Write). among (map page_of copies) w.page ≡ true) (λ (w : Write). IsTrue (c.holds w.page)) (λ w there. held_page copies w.page is.held there) ws is.pinned
  where
    held_page : (copies : List PageCopy) (page : ℕ) → All (λ copy. IsTrue (c.holds copy.page)) copies → among (map page_of copies) page ≡ true → IsTrue (c.holds page)
    held_page [] page held there = cc
    held_page (copy ∷ more) page held there = elim (or_cases (page == copy.page) (among (map page_of more) page) there) [
      | inl here ↦ let P : ℕ → Type 0 = λ n. IsTrue (c.holds n) in subst P (sym (eqb-true page copy.page here)) (held 0 copy (omega arith))
      | inr later ↦ held_page more page (All-tail (λ (copy : PageCopy). IsTrue (c.holds copy.page)) copy more held) later
    ]

-- ---- the beginning

-- with no copies and no writes over the cache as it was, a mini-transaction begins
pub begins : (c d : CacheState) (copies : List PageCopy) (ws : List Write) → d.told ≡ c.told → d.count ≡ c.count → d.faults ≡ c.faults → copies ≡ [] → ws ≡ [] → Begins c (mtr_state d copies ws)
begins c d copies ws told count faults none nothing =
    let P : List Write → Type 0 = λ vs. option_map (all_written vs) d.told ≡ c.told in
    let l = ap (λ (vs : List Write). length (frame_bytes vs)) nothing in
    record {
      told = subst P (sym nothing) (as_it_is d.told ∙ told);
      writes = ap Some nothing;
      count = count;
      touched = ap (map page_of) none;
      room = omega (arith, l, length-frame []);
      faults = faults;
    }
  where
    as_it_is : (o : Option Pages) → option_map (all_written []) o ≡ o
    as_it_is None = refl
    as_it_is (Some pages) = refl

-- what a first call may use
pub may_begin : (c : CacheState) (s : PageState) (named : List ℕ) (others bytes : ℕ) → Begins c s → different named + others ≤ max_pins → bytes ≤ whole_room → MayUse named others bytes s
may_begin c s named others bytes begun few short =
    let e : different (named ++ s.touched) ≡ different named = ap (λ (ns : List ℕ). different (named ++ ns)) begun.touched ∙ ap different (append-nil named) in
    record { pins = omega (arith, e, few); room = omega (arith, begun.room, short) }
