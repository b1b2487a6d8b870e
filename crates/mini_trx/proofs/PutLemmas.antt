-- A group's writes made in pages in memory.
use Rattle.std.proofs.Common.{◌≡◌, ℕ, ◌<◌, ◌^◌, List, [], ◌∷◌, ◌++◌, length, take, drop, get_or, slice_set, All, sym, ap, subst, ◌∙◌, arith}
use Rattle.std.proofs.lemmas.List.{length-set, take_at, get_or_read}
use Rattle.std.proofs.lemmas.List.Elements.{All-set, All-tail, All-weaker}
use Rattle.page_model.specs.Pages.{Pages, Write, page_at, patched, written, all_written, page_bytes}
use Rattle.page_model.proofs.FrameLemmas.{length-patched}
use Rattle.page_model.specs.Frames.{IsInside}

abbrev pub HasSizes : Pages → Type 0
HasSizes pages = All (λ page. length page ≡ page_bytes) pages

-- what one write leaves: what is left to write, where it goes, and the sizes
pub record Put (rest : List Write) (pages total : Pages) : Type 0 where
  pub left : all_written rest pages ≡ total
  pub below : All (λ w. w.page < length pages) rest
  pub sizes : HasSizes pages

-- with the first write made in its page, the others are left, to the same end
pub put_write : (writes rest : List Write) (w : Write) (pages total : Pages) (old new : List ℕ) → Put writes pages total → writes ≡ w ∷ rest → All (IsInside (2 ^ 32)) writes
    → old ≡ get_or pages w.page old → new ≡ patched old w.at w.bytes → Put rest (slice_set pages w.page new) total
unfolding written
put_write writes rest w pages total old new put is inside read made =
    let P : List Write → Type 0 = λ ws. All (IsInside (2 ^ 32)) ws in
    let Q : List Write → Type 0 = λ ws. All (λ w. w.page < length pages) ws in
    let fits = (subst P is inside) 0 w (omega arith) in
    let below = subst Q is put.below in
    let there : w.page < length pages = below 0 w (omega arith) in
    let same : page_at pages w.page ≡ old = sym (get_or_read pages w.page old there read []) in
    let after : slice_set pages w.page new ≡ written pages w.page w.at w.bytes = ap (λ (q : List ℕ). slice_set pages w.page q) (made ∙ ap (λ (q : List ℕ). patched q w.at w.bytes) (sym same)) in
    let size : length old ≡ page_bytes = ap length read ∙ put.sizes w.page old there in
    record {
      left = ap (all_written rest) after ∙ ap (λ (ws : List Write). all_written ws pages) (sym is) ∙ put.left;
      below = All-weaker (λ (v : Write). v.page < length pages) (λ (v : Write). v.page < length (slice_set pages w.page new)) (λ v low. omega (arith, length-set pages w.page new, low)) rest
          (All-tail (λ (v : Write). v.page < length pages) w rest below);
      sizes = All-set (λ (page : List ℕ). length page ≡ page_bytes) pages w.page new
          (ap length made ∙ length-patched old w.at w.bytes (omega (arith, size, fits.within)) ∙ size) put.sizes;
    }

-- what a loan of a whole vector leaves
pub refilled : (items new : Pages) (len : ℕ) → len ≡ length items → length new ≡ length items → take len (new ++ drop (length new) items) ≡ new
refilled items new len is same = take_at new (drop (length new) items) len (same ∙ sym is)
