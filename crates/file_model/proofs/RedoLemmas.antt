-- Groups that are applied once more change nothing: pages that are partly as they end, and partly as they began, end the same.
use Rattle.std.proofs.Common.{◌≡◌, ◌≢◌, ◌⊎◌, inl, inr, ⊎_elim, ℕ, ◌+◌, ◌-◌, ◌<◌, ◌≤◌, List, [], ◌∷◌, ◌++◌, length, get_or, slice_set, refl, sym, ap, subst, ◌∙◌, arith}
use Rattle.std.proofs.lemmas.Bool.{cases_eq, cases_lt}
use Rattle.std.proofs.lemmas.List.{ext_get_or, length-set, get_or-set_same, get_or-set_other}
use Rattle.page_model.specs.Pages.{Pages, page_at, byte, written, Write, all_written, Fits, AllFit}
use Rattle.page_model.proofs.FrameLemmas.{page_at-written, page_at-written_other, length-patched, get_or-patched, get_or-patched_here}
use Rattle.file_model.specs.Frames.{Group, applied}
use Rattle.file_model.specs.Doublewrite.{Batch, copied}
use Rattle.file_model.specs.Recovered.{AreFinal}

length-written : (pages : Pages) (page at : ℕ) (bytes : List ℕ) → length (written pages page at bytes) ≡ length pages
unfolding written
length-written pages page at bytes = length-set pages page _

-- as many pages, of the same sizes
pub record SameShape (p q : Pages) : Type 0 where
  pub many : length q ≡ length p
  pub sizes : (n : ℕ) → length (page_at q n) ≡ length (page_at p n)

-- each byte of q is as in p, or as in f
pub record IsBetween (p q f : Pages) : Type 0 where
  pub shape : SameShape p q
  pub each : (n k : ℕ) → (byte q n k ≡ byte p n k) ⊎ (byte q n k ≡ byte f n k)

pub same_pages : (p q : Pages) → SameShape p q → ((n k : ℕ) → byte q n k ≡ byte p n k) → q ≡ p
same_pages p q shape same = ext_get_or [] q p shape.many (λ n low. ext_get_or 0 (page_at q n) (page_at p n) (shape.sizes n) (λ k small. same n k))

module _ (page at : ℕ) (bytes : List ℕ) (p : Pages) (fits : Fits p page at (length bytes)) where
  size_written : (n : ℕ) → length (page_at (written p page at bytes) n) ≡ length (page_at p n)
  size_written n = elim (cases_eq n page) [
    | inl here ↦ rw here (ap length (page_at-written p page at bytes fits.there) ∙ length-patched (page_at p page) at bytes fits.within)
    | inr other ↦ ap length (page_at-written_other p page at bytes n other)
  ]

  byte_here : (k : ℕ) → at ≤ k → k < at + length bytes → byte (written p page at bytes) page k ≡ get_or bytes (k - at) 0
  byte_here k low high = ap (λ (xs : List ℕ). get_or xs k 0) (page_at-written p page at bytes fits.there) ∙ get_or-patched_here (page_at p page) at bytes k 0 fits.within low high

  byte_beside : (k : ℕ) → (k < at) ⊎ (at + length bytes ≤ k) → byte (written p page at bytes) page k ≡ byte p page k
  byte_beside k off = ap (λ (xs : List ℕ). get_or xs k 0) (page_at-written p page at bytes fits.there) ∙ get_or-patched (page_at p page) at bytes k 0 fits.within off

  byte_other : (n k : ℕ) → n ≢ page → byte (written p page at bytes) n k ≡ byte p n k
  byte_other n k other = ap (λ (xs : List ℕ). get_or xs k 0) (page_at-written_other p page at bytes n other)

fits_too : (p q : Pages) (page at n : ℕ) → SameShape p q → Fits p page at n → Fits q page at n
fits_too p q page at n shape fits = record { there = omega (arith, shape.many, fits.there); within = omega (arith, shape.sizes page, fits.within) }

-- one write in both
between_written : (w : Write) (p q f : Pages) → Fits p w.page w.at (length w.bytes) → IsBetween p q f → IsBetween (written p w.page w.at w.bytes) (written q w.page w.at w.bytes) f
between_written w p q f fits between =
    let too = fits_too p q w.page w.at (length w.bytes) between.shape fits in
    let beside = λ (n k : ℕ) (in_p : byte (written p w.page w.at w.bytes) n k ≡ byte p n k) (in_q : byte (written q w.page w.at w.bytes) n k ≡ byte q n k).
    let both : (byte (written q w.page w.at w.bytes) n k ≡ byte (written p w.page w.at w.bytes) n k) ⊎ (byte (written q w.page w.at w.bytes) n k ≡ byte f n k) =
    elim (between.each n k) [ inl same ↦ inl (in_q ∙ same ∙ sym in_p) | inr final ↦ inr (in_q ∙ final) ] in both in
    record {
      shape = record {
        many = length-written q w.page w.at w.bytes ∙ between.shape.many ∙ sym (length-written p w.page w.at w.bytes);
        sizes = λ n. size_written w.page w.at w.bytes q too n ∙ between.shape.sizes n ∙ sym (size_written w.page w.at w.bytes p fits n);
      };
      each = λ n k. elim (cases_eq n w.page) [
        | inr other ↦ beside n k (byte_other w.page w.at w.bytes p fits n k other) (byte_other w.page w.at w.bytes q too n k other)
        | inl here ↦ elim (cases_lt k w.at) [
          | inl low ↦ rw here (beside w.page k (byte_beside w.page w.at w.bytes p fits k (inl low)) (byte_beside w.page w.at w.bytes q too k (inl low)))
          | inr from ↦ elim (cases_lt k (w.at + length w.bytes)) [
            | inl inside ↦ rw here (inl (byte_here w.page w.at w.bytes q too k from inside ∙ sym (byte_here w.page w.at w.bytes p fits k from inside)))
            | inr high ↦ rw here (beside w.page k (byte_beside w.page w.at w.bytes p fits k (inr high)) (byte_beside w.page w.at w.bytes q too k (inr high)))
          ]
        ]
      ];
    }

pub writes_again : (ws : List Write) (p q f : Pages) → AllFit ws p → all_written ws p ≡ f → IsBetween p q f → all_written ws q ≡ f
writes_again [] p q f fit is between =
    same_pages p q between.shape (λ n k. ⊎_elim (λ same. same) (λ final. final ∙ ap (λ (x : Pages). byte x n k) (sym is)) (between.each n k)) ∙ is
writes_again (w ∷ ws) p q f fit is between =
    writes_again ws (written p w.page w.at w.bytes) (written q w.page w.at w.bytes) f fit.1 is (between_written w p q f fit.0 between)

-- ---- groups

-- the writes of all groups, one behind another
abbrev pub flat : List Group → List Write
flat [] = []
flat (g ∷ gs) = g ++ flat gs

all_written_then : (xs ys : List Write) (p : Pages) → all_written (xs ++ ys) p ≡ all_written ys (all_written xs p)
all_written_then [] ys p = refl
all_written_then (x ∷ xs) ys p = all_written_then xs ys (written p x.page x.at x.bytes)

-- groups are applied by making all their writes, one behind another
pub applied_flat : (gs : List Group) (p : Pages) → applied gs p ≡ all_written (flat gs) p
applied_flat [] p = refl
applied_flat (g ∷ gs) p = applied_flat gs (all_written g p) ∙ sym (all_written_then g (flat gs) p)

-- ---- a batch whose images are the pages as they end

between_set : (n : ℕ) (image : List ℕ) (p q f : Pages) → SameShape p f → image ≡ page_at f n → IsBetween p q f → IsBetween p (slice_set q n image) f
between_set n image p q f whole is between = elim (cases_lt n (length q)) [
  | inl low ↦ record {
    shape = record {
      many = length-set q n image ∙ between.shape.many;
      sizes = λ m. elim (cases_eq m n) [
        | inl here ↦ rw here (ap length (get_or-set_same q n image [] low ∙ is) ∙ whole.sizes n)
        | inr other ↦ ap length (get_or-set_other q n m image [] other) ∙ between.shape.sizes m
      ];
    };
    each = λ m k. elim (cases_eq m n) [
      | inl here ↦ rw here (inr (ap (λ (xs : List ℕ). get_or xs k 0) (get_or-set_same q n image [] low ∙ is)))
      | inr other ↦ let same = ap (λ (xs : List ℕ). get_or xs k 0) (get_or-set_other q n m image [] other) in
          let both : (byte (slice_set q n image) m k ≡ byte p m k) ⊎ (byte (slice_set q n image) m k ≡ byte f m k) = elim (between.each m k) [ inl was ↦ inl (same ∙ was) | inr final ↦ inr (same ∙ final) ] in both
    ];
  }
  | inr past ↦ subst (λ (x : Pages). IsBetween p x f) (sym (set_past q n image past)) between
]
  where
    set_past : (q : Pages) (n : ℕ) (image : List ℕ) → length q ≤ n → slice_set q n image ≡ q
    set_past q n image past =
        ext_get_or [] (slice_set q n image) q (length-set q n image) (λ m low. get_or-set_other q n m image [] (λ same. omega (arith, low, length-set q n image, same)))

between_copied : (batch : Batch) (p q f : Pages) → SameShape p f → AreFinal batch f → IsBetween p q f → IsBetween p (copied batch q) f
between_copied [] p q f whole final between = between
between_copied (b ∷ batch) p q f whole final between = between_copied batch p (slice_set q b.0 b.1) f whole final.1 (between_set b.0 b.1 p q f whole final.0 between)

-- Images that the groups end with may go home under the groups: applied over them, the groups end with the same pages.
pub copied_under : (gs : List Group) (batch : Batch) (p : Pages) → AllFit (flat gs) p → SameShape p (applied gs p) → AreFinal batch (applied gs p) → applied gs (copied batch p) ≡ applied gs p
copied_under gs batch p fit whole final =
    let start : IsBetween p p (applied gs p) = record { shape = record { many = refl; sizes = λ n. refl }; each = λ n k. inl refl } in
    let between = between_copied batch p p (applied gs p) whole final start in
    applied_flat gs (copied batch p) ∙ writes_again (flat gs) p (copied batch p) (applied gs p) fit (sym (applied_flat gs p)) between
