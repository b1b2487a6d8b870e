-- Copies and writes of a mini-transaction over a cache, call by call.
use Rattle.std.proofs.Common.{◌≡◌, ◌≢◌, inl, inr, ℕ, ◌+◌, ◌<◌, ◌≤◌, true, false, IsTrue, List, [], ◌∷◌, ◌++◌, length, map, get_or, slice_set, All, Option, Some, IfSome, refl, sym, ap, subst, ◌∙◌, arith}
use Rattle.std.proofs.lemmas.Bool.{cases_eq}
use Rattle.std.proofs.lemmas.List.{length_push, length-set, length-map, map-append, get_or-map, get_or-set_same, get_or-set_other}
use Rattle.std.proofs.lemmas.List.Elements.{All-nil, All-push, All-set, All-tail, All-weaker}
use Rattle.std.proofs.Math.Seq.{map-set_same}
use Rattle.page_model.specs.Pages.{Pages, AreWhole, page_at, page_bytes, patched, written, Write, all_written}
use Rattle.page_model.specs.Steps.{among, different}
use Rattle.page_model.proofs.FrameLemmas.{page_at-written, page_at-written_other}
use Rattle.mini_trx.specs.Copies.{PageCopy, page_copy, page_of}
use Rattle.mini_trx.specs.Pins.{IsPlace}
use Rattle.page_model.specs.Frames.{IsInside, write}
use Rattle.mini_trx.specs.Caches.{CacheState, KeepsPages, IsCoherent}
use Rattle.page_model.proofs.WholeLemmas.{whole_written}
use Rattle.mini_trx.proofs.DistinctLemmas.{different_push, among_push, among_get, apart_get}

-- ---- writes in order

-- with a write more, it is made in what the others leave
pub all_written_push : (ws : List Write) (w : Write) (pages : Pages) → all_written (ws ++ w ∷ []) pages ≡ written (all_written ws pages) w.page w.at w.bytes
all_written_push [] w pages = refl
all_written_push (v ∷ ws) w pages = all_written_push ws w (written pages v.page v.at v.bytes)

-- a page that no write is to
pub unwritten : (ws : List Write) (pages : Pages) (ns : List ℕ) (page : ℕ) → All (λ w. among ns w.page ≡ true) ws → among ns page ≡ false → page_at (all_written ws pages) page ≡ page_at pages page
unwritten [] pages ns page pinned not = refl
unwritten (w ∷ ws) pages ns page pinned not =
    let other : page ≢ w.page = λ same. (let here : among ns w.page ≡ true = pinned 0 w (omega arith) in let e : true ≡ false = sym here ∙ ap (among ns) (sym same) ∙ not in cc) in
    unwritten ws (written pages w.page w.at w.bytes) ns page (All-tail (λ (v : Write). among ns v.page ≡ true) w ws pinned) not
    ∙ page_at-written_other pages w.page w.at w.bytes page other

-- ---- nothing pinned

pub coherent_none : (c : CacheState) → c.lent ≡ 0 → IsCoherent c [] []
coherent_none c none = record {
  frames = omega (arith, none);
  apart = refl;
  held = All-nil (λ (copy : PageCopy). IsTrue (c.holds copy.page));
  pinned = All-nil (λ (w : Write). among [] w.page ≡ true);
  inside = All-nil (IsInside c.count);
  bytes = λ pages told. All-nil (λ (copy : PageCopy). copy.bytes ≡ page_at pages copy.page);
}

-- ---- the cache goes on

-- copies stay coherent over a cache that keeps its pages and lends no more of them
pub coherent_kept : (c d : CacheState) (copies : List PageCopy) (ws : List Write) → IsCoherent c copies ws → KeepsPages c d → d.lent ≤ c.lent → IsCoherent d copies ws
coherent_kept c d copies ws is keeps fewer = record {
  frames = omega (arith, is.frames, fewer);
  apart = is.apart;
  held = All-weaker (λ (copy : PageCopy). IsTrue (c.holds copy.page)) (λ (copy : PageCopy). IsTrue (d.holds copy.page)) (λ copy. keeps.holds copy.page) copies is.held;
  pinned = is.pinned;
  inside = All-weaker (IsInside c.count) (IsInside d.count) (λ w i. record { page = omega (arith, keeps.count, i.page); within = i.within }) ws is.inside;
  bytes = λ pages told. is.bytes pages (sym keeps.told ∙ told);
}

-- ---- one page more

copied : (told : Option Pages) (pages : Pages) (frame : List ℕ) (page : ℕ) → told ≡ Some pages → IfSome told (λ own. frame ≡ page_at own page) → frame ≡ page_at pages page
copied told pages frame page is copy = let P : Option Pages → Type 0 = λ o. IfSome o (λ own. frame ≡ page_at own page) in subst P is copy

-- they stay coherent with a copy more, of a held page without one, where one more is lent at most
pub coherent_pinned : (c d : CacheState) (copies : List PageCopy) (ws : List Write) (page : ℕ) (frame : List ℕ) → IsCoherent c copies ws → KeepsPages c d → d.lent ≤ c.lent + 1
    → among (map page_of copies) page ≡ false → IsTrue (d.holds page) → IfSome c.told (λ pages. frame ≡ page_at pages page) → IsCoherent d (copies ++ page_copy page frame ∷ []) ws
coherent_pinned c d copies ws page frame is keeps lent new held copy =
    let pages_are : map page_of (copies ++ page_copy page frame ∷ []) ≡ map page_of copies ++ page ∷ [] = map-append page_of copies (page_copy page frame ∷ []) in
    record {
      frames = omega (arith, is.frames, lent, length_push copies (page_copy page frame));
      apart = ap different pages_are ∙ different_push (map page_of copies) page new ∙ omega (arith, is.apart, length_push copies (page_copy page frame));
      held = All-push (λ (p : PageCopy). IsTrue (d.holds p.page)) copies (page_copy page frame)
          (All-weaker (λ (p : PageCopy). IsTrue (c.holds p.page)) (λ (p : PageCopy). IsTrue (d.holds p.page)) (λ p. keeps.holds p.page) copies is.held) held;
      pinned = All-weaker (λ (w : Write). among (map page_of copies) w.page ≡ true) (λ (w : Write). among (map page_of (copies ++ page_copy page frame ∷ [])) w.page ≡ true)
          (λ w there. ap (λ (ns : List ℕ). among ns w.page) pages_are ∙ among_push (map page_of copies) page w.page there) ws is.pinned;
      inside = All-weaker (IsInside c.count) (IsInside d.count) (λ w i. record { page = omega (arith, keeps.count, i.page); within = i.within }) ws is.inside;
      bytes = λ pages told.
          let told' = sym keeps.told ∙ told in
          All-push (λ (p : PageCopy). p.bytes ≡ page_at (all_written ws pages) p.page) copies (page_copy page frame) (is.bytes pages told')
          (copied c.told pages frame page told' copy ∙ sym (unwritten ws pages (map page_of copies) page is.pinned new));
    }

-- ---- one write more

-- copy k where the page is written that copy i is of
copy_written : (copies : List PageCopy) (i page at : ℕ) (bytes : List ℕ) (before : Pages) (k : ℕ) (d : PageCopy) → different (map page_of copies) ≡ length copies
    → IsPlace i page copies → page < length before → All (λ p. p.bytes ≡ page_at before p.page) copies → k < length copies
    → let copy = get_or copies i (page_copy 0 []) in let there = get_or (slice_set copies i (page_copy copy.page (patched copy.bytes at bytes))) k d in
    there.bytes ≡ page_at (written before page at bytes) there.page
copy_written copies i page at bytes before k d apart place below same under =
    let copy = get_or copies i (page_copy 0 []) in
    let next = page_copy copy.page (patched copy.bytes at bytes) in
    let is : copy.page ≡ page = place.holds (page_copy 0 []) in
    let P : PageCopy → Type 0 = λ p. p.bytes ≡ page_at (written before page at bytes) p.page in
    elim (cases_eq k i) [
      | inl here ↦
          let got : get_or (slice_set copies i next) k d ≡ next = ap (λ (n : ℕ). get_or (slice_set copies i next) n d) here ∙ get_or-set_same copies i next d place.below in
          let fact : P next =
          ap (λ (q : List ℕ). patched q at bytes) (same i (page_copy 0 []) place.below ∙ ap (page_at before) is)
          ∙ sym (page_at-written before page at bytes below) ∙ ap (page_at (written before page at bytes)) (sym is) in
          subst P (sym got) fact
      | inr elsewhere ↦
          let got : get_or (slice_set copies i next) k d ≡ get_or copies k d = get_or-set_other copies i k next d elsewhere in
          let other : (get_or copies k d).page ≢ page = λ e.
          apart_get (map page_of copies) k i 0 (apart ∙ sym (length-map copies page_of)) (omega (arith, length-map copies page_of)) (omega (arith, length-map copies page_of, place.below)) elsewhere
          (get_or-map page_of copies k d 0 under ∙ e ∙ sym is ∙ sym (get_or-map page_of copies i (page_copy 0 []) 0 place.below)) in
          let fact : P (get_or copies k d) = same k d under ∙ sym (page_at-written_other before page at bytes (get_or copies k d).page other) in
          subst P (sym got) fact
    ]

pub coherent_written : (c : CacheState) (copies : List PageCopy) (ws : List Write) (i page at : ℕ) (bytes : List ℕ) → IsCoherent c copies ws
    → ((pages : Pages) → c.told ≡ Some pages → AreWhole pages c.count) → IsPlace i page copies → page < c.count → at + length bytes ≤ page_bytes
    → let copy = get_or copies i (page_copy 0 []) in
    IsCoherent c (slice_set copies i (page_copy copy.page (patched copy.bytes at bytes))) (ws ++ write page at bytes ∷ [])
coherent_written c copies ws i page at bytes is whole place below within =
    let copy = get_or copies i (page_copy 0 []) in
    let next = page_copy copy.page (patched copy.bytes at bytes) in
    let len : length (slice_set copies i next) ≡ length copies = length-set copies i next in
    let pages_are : map page_of (slice_set copies i next) ≡ map page_of copies = map-set_same page_of copies i next (page_copy 0 []) refl in
    let is_page : copy.page ≡ page = place.holds (page_copy 0 []) in
    record {
      frames = omega (arith, len, is.frames);
      apart = ap different pages_are ∙ is.apart ∙ sym len;
      held = All-set (λ (p : PageCopy). IsTrue (c.holds p.page)) copies i next (is.held i (page_copy 0 []) place.below) is.held;
      pinned = All-push (λ (w : Write). among (map page_of (slice_set copies i next)) w.page ≡ true) ws (write page at bytes)
          (All-weaker (λ (w : Write). among (map page_of copies) w.page ≡ true) (λ (w : Write). among (map page_of (slice_set copies i next)) w.page ≡ true)
          (λ w there. ap (λ (ns : List ℕ). among ns w.page) pages_are ∙ there) ws is.pinned)
          (ap (λ (ns : List ℕ). among ns page) pages_are
          ∙ ap (among (map page_of copies)) (sym (get_or-map page_of copies i (page_copy 0 []) 0 place.below ∙ is_page))
          ∙ among_get (map page_of copies) i 0 (omega (arith, length-map copies page_of, place.below)));
      inside = All-push (IsInside c.count) ws (write page at bytes) is.inside (record { page = below; within = within });
      bytes = λ pages told k d under.
          let before = all_written ws pages in
          let w = whole_written ws pages c.count (whole pages told) is.inside in
          let there = get_or (slice_set copies i next) k d in
          copy_written copies i page at bytes before k d is.apart place (omega (arith, w.many, below)) (is.bytes pages told) (omega (arith, len, under))
          ∙ ap (λ (ps : Pages). page_at ps there.page) (sym (all_written_push ws (write page at bytes) pages));
    }

-- the same, of what two calls left
pub coherent_after : (c : CacheState) (copies new : List PageCopy) (ws more : List Write) (i page at : ℕ) (bytes : List ℕ) → IsCoherent c copies ws
    → ((pages : Pages) → c.told ≡ Some pages → AreWhole pages c.count) → IsPlace i page copies → page < c.count → at + length bytes ≤ page_bytes
    → (let copy = get_or copies i (page_copy 0 []) in new ≡ slice_set copies i (page_copy copy.page (patched copy.bytes at bytes))) → more ≡ ws ++ write page at bytes ∷ []
    → IsCoherent c new more
coherent_after c copies new ws more i page at bytes is whole place below within patched_is more_is =
    let P : List PageCopy → Type 0 = λ ps. IsCoherent c ps more in
    let Q : List Write → Type 0 = λ vs. IsCoherent c (slice_set copies i (page_copy (get_or copies i (page_copy 0 [])).page (patched (get_or copies i (page_copy 0 [])).bytes at bytes))) vs in
    subst P (sym patched_is) (subst Q (sym more_is) (coherent_written c copies ws i page at bytes is whole place below within))
