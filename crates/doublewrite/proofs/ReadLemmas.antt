-- What a repair does, by what it reads.
use Rattle.std.proofs.Common.{◌≡◌, ℕ, ◌≤◌, Bool, true, false, List, length, slice_index, Option, Some, None, IfSome, refl, sym, ap, subst, ◌∙◌}
use Rattle.engine_base.specs.Disk.{Told, Holds}
use Rattle.file_model.specs.declared.layout.Layout.{Layout}
use Rattle.file_model.specs.Sections.{armed_place, count_place, wanted}
use Rattle.file_model.specs.Doublewrite.{Batch, copied, is_odd, header_batch, batch_in, number_in, image_in, armed, homes}
use Rattle.std.proofs.lemmas.List.FromFn.{length-map-range_with_len}
use Rattle.file_model.proofs.PartLemmas.{same_file}
use Rattle.file_model.proofs.BatchImages.{armed_odd, armed_even}
use Rattle.doublewrite.specs.Steps.{IsHeaded, InRepair, Repairing, WhileRepairing, Heading, WhileHeading}

-- ---- repair

-- a crash that leaves the file as it was is one that a repair may leave
pub repair_none : (l : Layout) (a : List ℕ) → WhileRepairing l a a
repair_none l a whole = record { repairs = refl; others = same_file (InRepair l (armed l a)) a }

even_repairs : (l : Layout) (a : List ℕ) → is_odd (slice_index a armed_place) ≡ false → Repairing l a a
even_repairs l a even whole = record {
  home = ap (λ (b : Batch). copied b (homes l a)) (sym (armed_even l a even));
  at_rest = record { whole = whole; even = even };
  others = same_file (InRepair l (armed l a)) a;
}

-- where no batch is armed
pub told_even : (l : Layout) (o p : Option (List ℕ)) (odd : Bool) → IfSome o (λ file. odd ≡ is_odd (slice_index file armed_place)) → odd ≡ false → p ≡ o → Told (Repairing l) o p
told_even l None p odd is closed same = same
told_even l (Some a) p odd is closed same = let T : Option (List ℕ) → Type 0 = λ q. Told (Repairing l) (Some a) q in subst T (sym same) (even_repairs l a (sym is ∙ closed))

pub count_even : (l : Layout) (o : Option (List ℕ)) (odd : Bool) → IfSome o (λ file. odd ≡ is_odd (slice_index file armed_place)) → odd ≡ false → IfSome o (λ file. 0 ≡ length (armed l file))
count_even l None odd is closed = tt
count_even l (Some a) odd is closed = ap length (sym (armed_even l a (sym is ∙ closed)))

-- where one is
pub headed_now : (l : Layout) (header : List ℕ) (count : ℕ) (o p : Option (List ℕ)) (odd : Bool) → IfSome o (λ file. odd ≡ is_odd (slice_index file armed_place)) → odd ≡ true → p ≡ o → IfSome p (λ file. Holds file count_place header)
    → ((file : List ℕ) → Holds file count_place header → header_batch l file ≡ batch_in file count) → IfSome o (λ a. wanted l ≤ length a → IsHeaded l header count a)
headed_now l header count None p odd is set same holds batch = tt
headed_now l header count (Some a) p odd is set same holds batch =
    let T : Option (List ℕ) → Type 0 = λ q. IfSome q (λ file. Holds file count_place header) in
    let there : Holds a count_place header = subst T same holds in
    λ whole. record { whole = whole; odd = sym is ∙ set; holds = there; batch = batch a there }

-- what a crash may leave with the header read is what one within a repair may leave
pub while_headed : (l : Layout) (header : List ℕ) (count : ℕ) (o : Option (List ℕ)) → IfSome o (λ a. wanted l ≤ length a → IsHeaded l header count a) → IfSome o (λ a. (c : List ℕ) → WhileHeading l header count a c → WhileRepairing l a c)
while_headed l header count None headed = tt
while_headed l header count (Some a) headed = λ c may whole. may (headed whole)

pub done_headed : (l : Layout) (header : List ℕ) (count : ℕ) (o : Option (List ℕ)) → IfSome o (λ a. wanted l ≤ length a → IsHeaded l header count a) → IfSome o (λ a. (c : List ℕ) → Heading l header count a c → Repairing l a c)
done_headed l header count None headed = tt
done_headed l header count (Some a) headed = λ c done whole. done (headed whole)

-- the count that was read is how many pages the armed batch has
pub count_headed : (l : Layout) (header : List ℕ) (count : ℕ) (o : Option (List ℕ)) → IfSome o (λ file. wanted l ≤ length file) → IfSome o (λ a. wanted l ≤ length a → IsHeaded l header count a) → IfSome o (λ file. count ≡ length (armed l file))
count_headed l header count None whole headed = tt
count_headed l header count (Some a) whole headed =
    let is = headed whole in
    sym (ap length (armed_odd l a is.odd ∙ is.batch) ∙ length-map-range_with_len {X = ℕ × List ℕ} (λ i. (number_in a i, image_in a i)) 0 count)
