-- Armed images are copied home one after another.
use Rattle.std.proofs.Common.{◌≡◌, inl, inr, ℕ, ◌+◌, ◌<◌, ◌≤◌, List, [], ◌∷◌, length, map, get_or, slice_set, Result, refl, sym, ap, ap₂, subst, ◌∙◌, arith}
use Rattle.std.specs.List.{range_with_len}
use Rattle.std.proofs.lemmas.List.{length-map, get_or-map}
use Rattle.file_model.proofs.BatchImages.{area_homes}
use Rattle.std.proofs.lemmas.List.FromFn.{fill_by_all, get_or-map-range_with_len, length-map-range_with_len, map-range_with_len_more}
use Rattle.engine_base.specs.Disk.{DiskState, Told, Torn, Written, Follows, LeavesOnly}
use Rattle.engine_base.specs.declared.fault.Fault.{Fault}
use Rattle.page_model.specs.Pages.{Pages, page_bytes}
use Rattle.file_model.specs.declared.layout.Layout.{Layout}
use Rattle.file_model.specs.Sections.{armed_place, page_place, image_place, wanted}
use Rattle.file_model.specs.Changes.{SameElsewhere, Range}
use Rattle.file_model.specs.Doublewrite.{Batch, numbers, copied, IsNamed, batch_in, armed, number_in, homes, repaired, image_in, InPages}
use Rattle.file_model.proofs.PartLemmas.{wider_elsewhere, then_elsewhere, same_file, part_same}
use Rattle.page_device.specs.Device.{MaySetPage}
use Rattle.engine_base.specs.Durable.{Counts}
use Rattle.engine_base.proofs.Moments.{started, run_on}
use Rattle.engine_base.proofs.CrashLemmas.{told_then, told_same}
use Rattle.doublewrite.specs.Batches.{number_of}
use Rattle.doublewrite.specs.Steps.{MayCopy, headed, headed_numbers, CopyingHeaded, CopiesImage, IsArmed, Homes, Resting, WhileResting, InRepair, Repairs, MayRepair, IsHeaded, Heading, WhileHeading}
use Rattle.doublewrite.proofs.HomeLemmas.{set_home, copied_more, named_at}
use Rattle.doublewrite.proofs.HeaderLemmas.{number_read}
use Rattle.doublewrite.proofs.AreaLemmas.{range_same}
use Rattle.doublewrite.proofs.StepLemmas.{is_armed, home_torn, home_done, resting_torn, resting_done}

module _ (l : Layout) (header : List ℕ) (count : ℕ) (few : count ≤ 32) (below : (i : ℕ) → i < count → number_of header i < l.pages) where
  abbrev ns : List ℕ
  ns = headed_numbers header count

  number_named : (i : ℕ) → i < count → IsNamed ns (number_of header i)
  number_named i low =
      let is : get_or ns i 0 ≡ number_of header i = get_or-map-range_with_len (number_of header) 0 count i i 0 low (omega arith) in
      subst (IsNamed ns) is (named_at ns i (omega (arith, low, length-map-range_with_len (number_of header) 0 count)))

  one_page : (i : ℕ) → i < count → (old new : List ℕ) → MaySetPage l (number_of header i) old new → SameElsewhere (InPages l ns) old new
  one_page i low old new same = wider_elsewhere (Range (page_place l (number_of header i)) page_bytes) (InPages l ns) old new (λ j within. (number_of header i, number_named i low, within)) same

  -- the images stay while pages go home
  image_kept : (i : ℕ) → i < 32 → (old new : List ℕ) → wanted l ≤ length old → SameElsewhere (InPages l ns) old new → image_in new i ≡ image_in old i
  image_kept i low old new whole same = part_same (InPages l ns) old new (image_place i) page_bytes same (omega (arith, whole)) (λ j from to (n, named, (low', high)). omega arith)

  copy_none : (a : List ℕ) → CopyingHeaded l header count 0 a a
  copy_none a whole = record { home = refl; others = same_file (InPages l ns) a }

  copy_more : (i : ℕ) → i < count → (a b c : List ℕ) → CopyingHeaded l header count i a b → CopiesImage l (number_of header i) i b c → CopyingHeaded l header count (i + 1) a c
  copy_more i low a b c copying sets whole =
      let so_far = copying whole in
      let longer = so_far.others.no_shorter in
      let same = image_kept i (omega arith) a b whole so_far.others in
      record {
        home = set_home l (number_of header i) (image_in b i) b c (below i low) (omega (arith, whole, longer)) sets
            ∙ ap₂ (λ (p : Pages) (xs : List ℕ). slice_set p (number_of header i) xs) so_far.home same
            ∙ sym (copied_more (headed header i a) (number_of header i, image_in a i) (homes l a))
            ∙ ap (λ (b : Batch). copied b (homes l a)) (sym (map-range_with_len_more (λ j. (number_of header j, image_in a j)) 0 i i (omega arith)));
        others = then_elsewhere (InPages l ns) a b c so_far.others (one_page i low b c sets.others);
      }

  pub record CopiesSome (i : ℕ) (old new : DiskState) : Type 0 where
    pub most : i ≤ count
    pub told : Told (CopyingHeaded l header count i) old.seen new.seen
    pub images : Follows (SameElsewhere (InPages l ns)) old.may_leave new.may_leave
    pub run : LeavesOnly old new (MayCopy old.may_leave l ns)
    pub tells : new.tells_images ≡ old.tells_images
    pub later : old.faults ≤ new.faults

  pub begins : (old : DiskState) → ((c : List ℕ) → old.left_since old.moment c → old.may_leave c) → CopiesSome 0 old old
  begins old only_now = record {
    most = omega arith;
    told = told_same (CopyingHeaded l header count 0) copy_none old.seen old.seen refl;
    images = λ c left. (c, left, same_file (InPages l ns) c);
    run = started old (MayCopy old.may_leave l ns) (λ c left. (c, only_now c left, same_file (InPages l ns) c));
    tells = refl;
    later = omega arith;
  }

  module _ (i : ℕ) (old mid new : DiskState) (low : i < count) (so_far : CopiesSome i old mid) (one : Follows (MaySetPage l (number_of header i)) mid.may_leave new.may_leave) where
    after : (c d : List ℕ) → mid.may_leave d → MaySetPage l (number_of header i) d c → MayCopy old.may_leave l ns c
    after c d left same = let first = so_far.images d left in (first.0, first.1, then_elsewhere (InPages l ns) first.0 d c first.2 (one_page i low d c same))

    pub images_more : Follows (SameElsewhere (InPages l ns)) old.may_leave new.may_leave
    images_more c left = let was = one c left in after c was.0 was.1 was.2

    pub run_more : LeavesOnly mid new (λ c. (d : List ℕ) × mid.may_leave d × MaySetPage l (number_of header i) d c) → LeavesOnly old new (MayCopy old.may_leave l ns)
    run_more run =
        run_on old mid new (MayCopy old.may_leave l ns) (λ c. (d : List ℕ) × mid.may_leave d × MaySetPage l (number_of header i) d c) (MayCopy old.may_leave l ns) so_far.run run
        (λ c has. has) (λ c (d, left, same). after c d left same)

    pub counts_more : {T : Type 0} (r : Result T Fault) → Counts mid new r → Counts old new r
    counts_more r counts = record {
      tells = counts.tells ∙ so_far.tells;
      cause = record { later = omega (arith, so_far.later, counts.cause.later); device = λ is. let rose = counts.cause.device is in omega (arith, so_far.later, rose) };
      plain = counts.plain;
    }

    pub goes_one : {T : Type 0} (r : Result T Fault) → Counts mid new r → LeavesOnly mid new (λ c. (d : List ℕ) × mid.may_leave d × MaySetPage l (number_of header i) d c)
        → Told (CopiesImage l (number_of header i) i) mid.seen new.seen → CopiesSome (i + 1) old new
    goes_one r counts run told = record {
      most = omega arith;
      told = told_then (CopyingHeaded l header count i) (CopiesImage l (number_of header i) i) (CopyingHeaded l header count (i + 1)) (copy_more i low) old.seen mid.seen new.seen so_far.told told;
      images = images_more;
      run = run_more run;
      tells = counts.tells ∙ so_far.tells;
      later = omega (arith, so_far.later, counts.cause.later);
    }

-- ---- the whole repair

module _ (l : Layout) (header : List ℕ) (count : ℕ) (few : count ≤ 32) (size : length header ≡ 132) (old : List ℕ) (is : IsHeaded l header count old) where
  abbrev batch : Batch
  batch = batch_in old count

  armed_old : IsArmed l batch old
  armed_old = record { whole = is.whole; odd = is.odd; header = is.batch }

  armed_is : armed l old ≡ batch
  armed_is = is_armed l batch old armed_old

  headed_is : headed header count old ≡ batch
  headed_is =
      range_same (λ i. (number_of header i, image_in old i)) (λ i. (number_in old i, image_in old i)) count (0, [])
      (λ i low. ap (λ (n : ℕ). (let e : ℕ × List ℕ = (n, image_in old i) in e)) (sym (number_read header old size is.holds i (omega arith))))

  numbers_are : headed_numbers header count ≡ numbers batch
  numbers_are =
      fill_by_all' (number_of header) count (numbers batch)
      (length-map (batch_in old count) (λ (b : ℕ × List ℕ). b.0) ∙ length-map-range_with_len {X = ℕ × List ℕ} (λ i. (number_in old i, image_in old i)) 0 count)
      (λ k low. get_or-map (λ (b : ℕ × List ℕ). b.0) (batch_in old count) k (0, []) 0 (omega (arith, length-map-range_with_len {X = ℕ × List ℕ} (λ i. (number_in old i, image_in old i)) 0 count))
      ∙ ap (λ (b : ℕ × List ℕ). b.0) (get_or-map-range_with_len (λ i. (number_in old i, image_in old i)) 0 count k k (0, []) low (omega arith)) ∙ number_read header old size is.holds k (omega arith))
    where
      fill_by_all' : (f : ℕ → ℕ) (n : ℕ) (xs : List ℕ) → length xs ≡ n → ((k : ℕ) → k < n → get_or xs k 0 ≡ f k) → map f (range_with_len 0 n) ≡ xs
      fill_by_all' f n xs long each = sym (fill_by_all f xs n 0 long each)

  in_pages : (c : List ℕ) → SameElsewhere (InPages l (headed_numbers header count)) old c → SameElsewhere (InPages l (numbers batch)) old c
  in_pages c same = let P : List ℕ → Type 0 = λ ms. SameElsewhere (InPages l ms) old c in subst P numbers_are same

  in_repair : (c : List ℕ) → SameElsewhere (InPages l (numbers batch)) old c → SameElsewhere (InRepair l (armed l old)) old c
  in_repair c same = let P : Batch → Type 0 = λ b. SameElsewhere (InRepair l b) old c in subst P (sym armed_is) (wider_elsewhere (InPages l (numbers batch)) (InRepair l batch) old c (λ i inner. inr inner) same)

  repaired_is : repaired l old ≡ copied batch (homes l old)
  repaired_is = ap (λ (b : Batch). copied b (homes l old)) armed_is

  -- while the images go home
  pub copying_torn : (c : List ℕ) → SameElsewhere (InPages l (headed_numbers header count)) old c → MayRepair l old c
  copying_torn c same =
      let may = home_torn l batch old c (in_pages c same) armed_old in
      record { repairs = may.repairs ∙ sym repaired_is; others = in_repair c may.others }

  copied_home : (mid : List ℕ) → CopyingHeaded l header count count old mid → Homes l batch old mid
  copied_home mid copying =
      let copies = copying is.whole in
      home_done l batch old mid (in_pages mid copies.others) (copies.home ∙ ap (λ (b : Batch). copied b (homes l old)) headed_is) armed_old

  both : (mid c : List ℕ) → SameElsewhere (InPages l (numbers batch)) old mid → SameElsewhere (Range armed_place 1) mid c → SameElsewhere (InRepair l (armed l old)) old c
  both mid c one two =
      let P : Batch → Type 0 = λ b. SameElsewhere (InRepair l b) old c in
      subst P (sym armed_is) (then_elsewhere (InRepair l batch) old mid c (wider_elsewhere (InPages l (numbers batch)) (InRepair l batch) old mid (λ i inner. inr inner) one) (wider_elsewhere (Range armed_place 1) (InRepair l batch) mid c (λ i inner. inl inner) two))

  -- while the batch is disarmed
  pub disarming_torn : (mid c : List ℕ) → CopyingHeaded l header count count old mid → WhileResting l batch mid c → MayRepair l old c
  disarming_torn mid c copying rests =
      let home = copied_home mid copying in
      let may = rests home.is in
      record { repairs = may.repairs ∙ home.home ∙ sym repaired_is; others = both mid c home.others may.others }

  pub disarming_done : (mid new : List ℕ) → CopyingHeaded l header count count old mid → Resting l batch mid new → Repairs l old new
  disarming_done mid new copying rests =
      let home = copied_home mid copying in
      let done = rests home.is in
      record {
        home = area_homes l mid new (home.is.armed.whole) (Range armed_place 1) done.others (λ i (from, to). omega arith) ∙ home.home ∙ sym repaired_is;
        at_rest = done.at_rest;
        others = both mid new home.others done.others;
      }

-- ---- as the calls have it

module _ (l : Layout) (header : List ℕ) (count : ℕ) (few : count ≤ 32) (size : length header ≡ 132) where
  pub heading_first : (a c : List ℕ) → SameElsewhere (InPages l (headed_numbers header count)) a c → WhileHeading l header count a c
  heading_first a c same is = copying_torn l header count few size a is c same

  pub heading_second : (a b c : List ℕ) → CopyingHeaded l header count count a b → Torn armed_place 1 b c → WhileHeading l header count a c
  heading_second a b c copying torn is = disarming_torn l header count few size a is b c copying (resting_torn l (batch_in a count) b c torn)

  pub heading_done : (a b c : List ℕ) → CopyingHeaded l header count count a b → Written armed_place (0 ∷ []) b c → Heading l header count a c
  heading_done a b c copying written is = disarming_done l header count few size a is b c copying (resting_done l (batch_in a count) b c written)
