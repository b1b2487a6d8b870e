-- A record put: three writes.
use Rattle.std.proofs.Common.{◌≡◌, inl, inr, ℕ, ◌+◌, ◌≤◌, [], ◌∷◌, Option, ◌∙◌, subst, arith, lit≤}
use Rattle.std.proofs.lemmas.Bool.{cases_eq}
use Rattle.page_model.specs.Pages.{Pages, Address}
use Rattle.page_model.specs.Spans.{span, SameOutside, SetsField, SetsAddress, IsApart}
use Rattle.page_model.specs.Steps.{Told}
use Rattle.page_model.proofs.FrameLemmas.{field_kept, outside_then}
use Rattle.undo_model.specs.Data.{Record}
use Rattle.undo_model.specs.Bytes.{record_size}
use Rattle.undo_model.specs.Reading.{IsRecordAt, WritesRecord, record_span}
use Rattle.undo_model.specs.Logs.{end_field}
use Rattle.undo_model.proofs.PageLemmas.{record_kept}
use Rattle.undo_logs.specs.Puts.{PutsRecord}
use Rattle.undo_logs.proofs.UseLemmas.{told_then}

-- another page, or behind the field
apart_behind : (page q at size at' size' : ℕ) → (q ≡ page → at + size ≤ at') → IsApart (span page at size) (span q at' size')
apart_behind page q at size at' size' behind = elim (cases_eq q page) [
  | inl same ↦ inr (inr (behind same))
  | inr other ↦ inl other
]

-- the record and the end
record EndsRecord (a : Address) (r : Record) (previous : Address) (old new : Pages) : Type 0 where
  stands : 56 ≤ a.at → IsRecordAt new a r previous
  end : end_field new a.page ≡ a.at + record_size r
  outside : SameOutside (record_span a r ∷ span a.page 50 2 ∷ []) old new

ends : (a : Address) (r : Record) (previous : Address) (x y z : Pages) → WritesRecord a r previous x y → SetsField a.page 50 2 (a.at + record_size r) y z → EndsRecord a r previous x z
ends a r previous x y z first second = record {
  stands = λ low. record_kept (span a.page 50 2 ∷ []) y z a r previous second.outside (apart_behind a.page a.page 50 2 a.at (record_size r) (λ same. omega (arith, low)), tt) first.stands;
  end = second.here;
  outside = outside_then (record_span a r ∷ []) (span a.page 50 2 ∷ []) x y z first.outside second.outside;
}

puts : (log : ℕ) (a : Address) (r : Record) (previous : Address) (x y z : Pages) → EndsRecord a r previous x y → SetsAddress log 95 a y z → PutsRecord log a r previous x z
puts log a r previous x y z first second = record {
  stands = λ low first_low. record_kept (span log 95 6 ∷ []) y z a r previous second.outside (apart_behind log a.page 95 6 a.at (record_size r) (λ same. let l = first_low same in omega (arith, l)), tt) (first.stands low);
  end = field_kept (span log 95 6 ∷ []) y z a.page 50 2 second.outside (inr (inl (lit≤ tt)), tt) ∙ first.end;
  last = second.here;
  outside = outside_then (record_span a r ∷ span a.page 50 2 ∷ []) (span log 95 6 ∷ []) x y z first.outside second.outside;
}

-- a record written, the page's end set behind it, and it made the log's last: it is put
pub put_told : (log : ℕ) (a : Address) (r : Record) (previous : Address) (n : ℕ) (t0 t1 t2 t3 : Option Pages) → n ≡ a.at + record_size r
    → Told (WritesRecord a r previous) t0 t1 → Told (SetsField a.page 50 2 n) t1 t2 → Told (SetsAddress log 95 a) t2 t3 → Told (PutsRecord log a r previous) t0 t3
put_told log a r previous n t0 t1 t2 t3 is w1 w2 w3 =
    let F : ℕ → Type 0 = λ m. Told (SetsField a.page 50 2 m) t1 t2 in
    told_then (EndsRecord a r previous) (SetsAddress log 95 a) (PutsRecord log a r previous) t0 t2 t3 (puts log a r previous)
    (told_then (WritesRecord a r previous) (SetsField a.page 50 2 (a.at + record_size r)) (EndsRecord a r previous) t0 t1 t2 (ends a r previous) w1 (subst F is w2)) w3
