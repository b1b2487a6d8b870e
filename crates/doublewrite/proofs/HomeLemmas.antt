-- Images that go home one after another.
use Rattle.std.proofs.Common.{◌≡◌, inl, inr, ℕ, zero, suc, ◌+◌, ◌<◌, ◌≤◌, Bool, true, false, List, [], ◌∷◌, ◌++◌, length, get_or, slice_set, nat_lt, Option, Result, Ok, Err, OnOk, refl, sym, ap, subst, ◌∙◌, arith}
use Rattle.std.specs.List.{list_all}
use Rattle.std.specs.Result.{is_err}
use Rattle.std.proofs.lemmas.Bool.{cases_eq, and_parts, ltb-true, true≢false}
use Rattle.std.proofs.lemmas.List.{ext_get_or, length-set, get_or-set_same, get_or-set_other, get_or-map, length-map}
use Rattle.std.proofs.lemmas.List.FromFn.{get_or-map-range_with_len, length-map-range_with_len, map-range_with_len_more}
use Rattle.engine_base.specs.Disk.{DiskState, Told, Follows, Elapses, LeavesOnly, GoesOn}
use Rattle.engine_base.specs.declared.fault.Fault.{Fault}
use Rattle.page_model.specs.Pages.{Pages, page_bytes}
use Rattle.file_model.specs.declared.layout.Layout.{Layout}
use Rattle.file_model.specs.Sections.{page_place, wanted}
use Rattle.file_model.specs.Changes.{SameElsewhere, Range}
use Rattle.file_model.specs.Doublewrite.{Batch, numbers, copied, IsNamed, homes, InPages}
use Rattle.file_model.proofs.PartLemmas.{wider_elsewhere, then_elsewhere, same_file, part_same}
use Rattle.file_model.proofs.BatchLemmas.{length-homes, page_at-homes}
use Rattle.page_device.specs.Device.{SetsPage, MaySetPage}
use Rattle.engine_base.specs.Durable.{Counts}
use Rattle.engine_base.proofs.Moments.{started, goes_on}
use Rattle.engine_base.proofs.CrashLemmas.{told_then, told_same}
use Rattle.doublewrite.specs.Batches.{number_of, image_of, batch_of, KeepsBatch}
use Rattle.doublewrite.specs.Steps.{Copying, MayCopy, Homing, WhileHoming}
use Rattle.doublewrite.proofs.StepLemmas.{home_torn, home_done}

-- ---- one page of a batch

-- with a page more in the batch, its image is copied once the others are
pub copied_more : (batch : Batch) (b : ℕ × List ℕ) (p : Pages) → copied (batch ++ b ∷ []) p ≡ slice_set (copied batch p) b.0 b.1
copied_more [] b p = refl
copied_more (a ∷ batch) b p = copied_more batch b (slice_set p a.0 a.1)

-- the number at each place of a list is one that the list names
pub named_at : (ns : List ℕ) (k : ℕ) → k < length ns → IsNamed ns (get_or ns k 0)
named_at [] k low = absurd (omega arith)
named_at (n ∷ ns) zero low = inl refl
named_at (n ∷ ns) (suc k) low = inr (named_at ns k (omega arith))

pub pass_at : (p : ℕ × List ℕ → Bool) (xs : Batch) (k : ℕ) (d : ℕ × List ℕ) → list_all p xs ≡ true → k < length xs → p (get_or xs k d) ≡ true
pass_at p [] k d all low = absurd (omega arith)
pass_at p (x ∷ xs) zero d all low = (and_parts _ _ all).0
pass_at p (x ∷ xs) (suc k) d all low = pass_at p xs k d (and_parts _ _ all).1 (omega arith)

-- a page that was written at its place
pub set_home : (l : Layout) (n : ℕ) (bytes old new : List ℕ) → n < l.pages → wanted l ≤ length old → SetsPage l n bytes old new → homes l new ≡ slice_set (homes l old) n bytes
set_home l n bytes old new below whole sets =
    ext_get_or [] (homes l new) (slice_set (homes l old) n bytes) (length-homes l new ∙ sym (length-homes l old) ∙ sym (length-set (homes l old) n bytes)) λ k low.
    let in_pages : k < l.pages = omega (arith, low, length-homes l new) in
    elim (cases_eq k n) [
      | inl here ↦ rw here (page_at-homes l new n below ∙ sets.here ∙ sym (get_or-set_same (homes l old) n bytes [] (omega (arith, below, length-homes l old))))
      | inr other ↦
          page_at-homes l new k in_pages
          ∙ part_same (Range (page_place l n) page_bytes) old new (page_place l k) page_bytes sets.others (omega (arith, whole, in_pages)) (λ i from to (low', high). other (let e : k ≡ n = omega arith in e))
          ∙ sym (page_at-homes l old k in_pages) ∙ sym (get_or-set_other (homes l old) n k bytes [] other)
    ]

module _ (l : Layout) (count : ℕ) (buffer : List ℕ) (keeps : KeepsBatch l count buffer) where
  abbrev entry : ℕ → ℕ × List ℕ
  entry i = (number_of buffer i, image_of buffer i)

  abbrev ns : List ℕ
  ns = numbers (batch_of count buffer)

  entry_at : (i : ℕ) → i < count → get_or (batch_of count buffer) i (0, []) ≡ entry i
  entry_at i low = get_or-map-range_with_len entry 0 count i i (0, []) low (omega arith)

  long : length (batch_of count buffer) ≡ count
  long = length-map-range_with_len entry 0 count

  pub number_below : (i : ℕ) → i < count → number_of buffer i < l.pages
  number_below i low =
      ltb-true _ _ (ap (λ (b : ℕ × List ℕ). nat_lt b.0 l.pages) (sym (entry_at i low)) ∙ pass_at (λ (b : ℕ × List ℕ). nat_lt b.0 l.pages) (batch_of count buffer) i (0, []) keeps.below (omega (arith, long)))

  number_named : (i : ℕ) → i < count → IsNamed ns (number_of buffer i)
  number_named i low =
      let is : get_or ns i 0 ≡ number_of buffer i = get_or-map (λ (b : ℕ × List ℕ). b.0) (batch_of count buffer) i (0, []) 0 (omega (arith, long)) ∙ ap (λ (b : ℕ × List ℕ). b.0) (entry_at i low) in
      subst (IsNamed ns) is (named_at ns i (omega (arith, length-map (batch_of count buffer) (λ (b : ℕ × List ℕ). b.0), long)))

  one_page : (i : ℕ) → i < count → (old new : List ℕ) → MaySetPage l (number_of buffer i) old new → SameElsewhere (InPages l ns) old new
  one_page i low old new same = wider_elsewhere (Range (page_place l (number_of buffer i)) page_bytes) (InPages l ns) old new (λ j within. (number_of buffer i, number_named i low, within)) same

  copy_none : (a : List ℕ) → Copying l ns (batch_of 0 buffer) a a
  copy_none a whole = record { home = refl; others = same_file (InPages l ns) a }

  copy_more : (i : ℕ) → i < count → (a b c : List ℕ) → Copying l ns (batch_of i buffer) a b → SetsPage l (number_of buffer i) (image_of buffer i) b c → Copying l ns (batch_of (i + 1) buffer) a c
  copy_more i low a b c copying sets whole =
      let so_far = copying whole in
      let longer = so_far.others.no_shorter in
      record {
        home = set_home l (number_of buffer i) (image_of buffer i) b c (number_below i low) (omega (arith, whole, longer)) sets
            ∙ ap (λ (p : Pages). slice_set p (number_of buffer i) (image_of buffer i)) so_far.home
            ∙ sym (copied_more (batch_of i buffer) (entry i) (homes l a))
            ∙ ap (λ (b : Batch). copied b (homes l a)) (sym (map-range_with_len_more entry 0 i i (omega arith)));
        others = then_elsewhere (InPages l ns) a b c so_far.others (one_page i low b c sets.others);
      }

  -- ---- the calls so far

  pub record WritesSome (i : ℕ) (old new : DiskState) : Type 0 where
    pub most : i ≤ count
    pub told : Told (Copying l ns (batch_of i buffer)) old.seen new.seen
    pub images : Follows (SameElsewhere (InPages l ns)) old.may_leave new.may_leave
    pub run : LeavesOnly old new (MayCopy old.may_leave l ns)
    pub tells : new.tells_images ≡ old.tells_images
    pub later : old.faults ≤ new.faults

  pub begins : (old : DiskState) → ((c : List ℕ) → old.left_since old.moment c → old.may_leave c) → WritesSome 0 old old
  begins old only_now = record {
    most = omega arith;
    told = told_same (Copying l ns (batch_of 0 buffer)) copy_none old.seen old.seen refl;
    images = λ c left. (c, left, same_file (InPages l ns) c);
    run = started old (MayCopy old.may_leave l ns) (λ c left. (c, only_now c left, same_file (InPages l ns) c));
    tells = refl;
    later = omega arith;
  }

  module _ (i : ℕ) (old mid new : DiskState) (low : i < count) (so_far : WritesSome i old mid) (one : Follows (MaySetPage l (number_of buffer i)) mid.may_leave new.may_leave) where
    pub images_more : Follows (SameElsewhere (InPages l ns)) old.may_leave new.may_leave
    images_more c left =
        let was = one c left in
        let first = so_far.images was.0 was.1 in
        (first.0, first.1, then_elsewhere (InPages l ns) first.0 was.0 c first.2 (one_page i low was.0 c was.2))

    pub run_more : Elapses mid new → LeavesOnly old new (MayCopy old.may_leave l ns)
    run_more time = goes_on old mid new (MayCopy old.may_leave l ns) so_far.run time images_more

    pub counts_more : {T : Type 0} (r : Result T Fault) → GoesOn mid new r → Counts old new r
    counts_more r goes = record {
      tells = goes.tells ∙ so_far.tells;
      cause = record { later = omega (arith, so_far.later, goes.cause.later); device = λ is. let rose = goes.cause.device is in omega (arith, so_far.later, rose) };
      plain = goes.plain;
    }

    pub goes_one : {T : Type 0} (r : Result T Fault) → GoesOn mid new r → Told (SetsPage l (number_of buffer i) (image_of buffer i)) mid.seen new.seen → WritesSome (i + 1) old new
    goes_one r goes told = record {
      most = omega arith;
      told = told_then (Copying l ns (batch_of i buffer)) (SetsPage l (number_of buffer i) (image_of buffer i)) (Copying l ns (batch_of (i + 1) buffer)) (copy_more i low) old.seen mid.seen new.seen so_far.told told;
      images = images_more;
      run = run_more goes.time;
      tells = goes.tells ∙ so_far.tells;
      later = omega (arith, so_far.later, goes.cause.later);
    }

-- a call that isn't refused is Ok
pub of_ok : {T E : Type 0} (A : Type 0) (r : Result T E) → is_err r ≡ false → OnOk r A → A
of_ok A (Ok x) not a = a
of_ok A (Err e) not a = absurd (true≢false not)

-- a file that differs in the batch's pages alone is what a crash may leave as they go home
pub homing_torn : (l : Layout) (batch : Batch) (a c : List ℕ) → SameElsewhere (InPages l (numbers batch)) a c → WhileHoming l batch a c
homing_torn l batch a c same is = home_torn l batch a c same is

-- once all images of an armed batch are copied to its pages, the batch is home
pub homing_done : (l : Layout) (batch : Batch) (a b : List ℕ) → Copying l (numbers batch) batch a b → Homing l batch a b
homing_done l batch a b copying is = let copies = copying is.whole in home_done l batch a b copies.others copies.home is

-- what holds of contents before and behind holds, where a call is Ok, of the same ones told again
pub ok_same : {T E : Type 0} (P : List ℕ → List ℕ → Type 0) (r : Result T E) (o p q : Option (List ℕ)) → q ≡ p → Told P o p → OnOk r (Told P o q)
ok_same P (Ok x) o p q same told = let T : Option (List ℕ) → Type 0 = λ m. Told P o m in subst T (sym same) told
ok_same P (Err e) o p q same told = tt
