-- A draft goes on as the definition's progress does, and ends as its change.
use Rattle.std.proofs.Common.{◌≡◌, ◌≤◌, ◌<◌, ℕ, suc, ◌+◌, Bool, true, false, List, [], ◌∷◌, ◌++◌, append-nil, length, take, drop, Some, Ok, Err, refl, sym, ap, subst, ◌∙◌, arith, cond}
use Rattle.std.proofs.lemmas.List.{length-append, drop_all, take_all}
use Rattle.tree_model.specs.Tree.{Tree, depth}
use Rattle.tree_model.specs.Edit.{Edit, edited}
use Rattle.tree_model.specs.Same.{same_tree}
use Rattle.tree_model.proofs.SameLemmas.{tree_equal}
use Rattle.binary_model.specs.Stands.{IsBytes, Stands}
use Rattle.binary_model.specs.Place.{Holds}
use Rattle.binary_model.specs.Canonical.{canonical_length}
use Rattle.binary_model.specs.Change as change
use Rattle.binary_model.specs.Change.{Progress, progress, written, Run, runs, SetsTrees, put_all, stored_as, finished, AreApart, StandAt as Stood}
use Rattle.binary_model.proofs.in_place.WrittenLemmas.{written_length}
use Rattle.binary_model.proofs.runs.RunLemmas.{runs_applied}
use Rattle.binary_model.proofs.runs.MaximalLemmas.{runs_maximal}
use Rattle.binary_model.proofs.in_place.EditLemmas.{Follows, progress_follows}
use Rattle.binary_model.proofs.in_place.ChangeLemmas.{same_edits}
use Rattle.json_patch.specs.declared.writes.Write.{Write}
use Rattle.json_patch.specs.declared.parts.Parts.{Parts as Changed}
use Rattle.json_patch.specs.declared.planning.Planned.TheVariants as planned
use Rattle.json_patch.specs.declared.error.PlanError.TheVariants.{Deep, Memory}
use Rattle.json_patch.specs.Writes.{put_writes, AreInside}
use Rattle.json_patch.specs.Made.{StandFor, in_place}
use Rattle.json_patch.specs.View.{runs_of, AreWithin}
use Rattle.json_patch.specs.Answer.{IsAnswer, IsOther, MakeStanding, Plans}

-- the bytes that an edit in place leaves stand for its tree
pub stands_on : (edit : Edit) (bytes new : List ℕ) (t other : Tree) → SetsTrees edit → StandFor bytes t → progress edit (record { «tree» = t; edited = Some bytes }) ≡ record { «tree» = other; edited = Some new } → StandFor new other
stands_on edit bytes new t other sets h e =
    let follows = progress_follows bytes edit (record { «tree» = t; edited = Some bytes }) sets (record { len = refl; octets = h.octets; is = h.is; some = h.some; value = h.value; whole = h.whole }) in
    let s = subst (λ p. Follows bytes p.edited p.«tree») e follows in
    let small = h.small in
    let len = s.len in
    record { octets = s.octets; is = s.is; some = s.some; value = s.value; whole = s.whole; small = omega (arith, small, len) }

-- ---- bytes that are written

-- writes within the bytes leave their length
pub writes_length : (ws : List Write) (bytes : List ℕ) → AreInside (length bytes) ws → length (put_writes ws bytes) ≡ length bytes
writes_length [] bytes h = refl
writes_length (w ∷ ws) bytes h =
    let one = written_length bytes w.at w.bytes.items h.0 in
    writes_length ws (written bytes w.at w.bytes.items) (subst (λ n. AreInside n ws) (sym one) h.1) ∙ one

-- as many new bytes put over all old ones, and cut to that length, are the new ones
pub whole_again : (items new : List ℕ) (len : ℕ) → len ≡ length items → length new ≡ length items → take len (new ++ drop (length new) items) ≡ new
whole_again items new len e f =
    ap (λ r. take len (new ++ r)) (drop_all (length new) items (omega (arith, f))) ∙ ap (take len) (append-nil new) ∙ take_all len new (omega (arith, e, f))

-- ---- runs lie within the bytes

held_within : (old : List ℕ) (at : ℕ) (xs : List ℕ) → Holds old at xs → at + length xs ≤ length old
held_within old at xs h =
    let a = ap length h.whole in
    let b = length-append h.pre (xs ++ h.post) in
    let d = length-append xs h.post in
    let p = h.place in
    omega (arith, a, b, d, p)

within_from : (rs : List Run) (old new : List ℕ) (low : ℕ) → AreApart low rs → Stood old new rs → AreWithin (length old) rs
within_from [] old new low a s = tt
within_from (r ∷ rs) old new low a s =
    let same = a.1.1 in
    let inside = held_within old r.at r.before s.0 in
    (sym same, omega (arith, same, inside), within_from rs old new (suc (r.at + length r.before)) a.2 s.2)

pub runs_within : (old new : List ℕ) → length old ≡ length new → AreWithin (length old) (runs old new)
runs_within old new e = let m = runs_maximal old new e in within_from (runs old new) old new 0 m.apart m.stand

-- ---- the whole plan

-- bytes that stand for a tree, no more than a document may have, stand for it however deep it is
pub stands_for : (bytes : List ℕ) (t : Tree) → IsBytes bytes → length bytes ≤ 16777216 → Stands bytes t → StandFor bytes t
stands_for bytes t octets small s = record { octets = octets; is = s.«tree»; some = s.some; value = s.value; whole = s.whole; small = small }

-- what the edit leads to is the edited tree
edited_is : (bytes new : List ℕ) (edit : Edit) (t u : Tree) → progress edit (in_place bytes t) ≡ in_place new u → edited edit t ≡ u
edited_is bytes new edit t u e = sym (same_edits edit (in_place bytes t)) ∙ ap (λ p. p.«tree») e

ends_same : (bytes new : List ℕ) (t u : Tree) → same_tree t u ≡ true → finished bytes t (in_place new u) ≡ change.Same
ends_same bytes new t u e = rw e refl

ends_other : (bytes new : List ℕ) (t u : Tree) → same_tree t u ≡ false → finished bytes t (in_place new u) ≡ change.Parts (runs bytes new)
ends_other bytes new t u e = rw e refl

deep_other : (bytes new : List ℕ) (t u : Tree) → Stands bytes t → 100 < depth u → IsOther (finished bytes t (in_place new u))
deep_other bytes new t u s high = go (same_tree t u) refl
  where
    go : (b : Bool) → same_tree t u ≡ b → IsOther (cond b change.Same (stored_as bytes (in_place new u)))
    go true e = let same = ap depth (tree_equal t u e) in let low = s.nested in absurd (omega (arith, low, same, high))
    go false e = tt

pub memory_plan : (bytes : List ℕ) (edit : Edit) → Plans bytes edit (Err Memory)
memory_plan bytes edit = record { answer = λ t s. tt; stands = λ t s. tt; encoded = λ t s. tt }

-- the edit leads to an equal tree
abbrev pub LeadsBack : List ℕ → Edit → Tree → Type 0
LeadsBack bytes edit t = (new : List ℕ) × (u : Tree) × (progress edit (in_place bytes t) ≡ in_place new u) × (same_tree t u ≡ true)

-- for an edit that leads back to an equal tree the plan is to change nothing
pub same_plan : (bytes : List ℕ) (edit : Edit) → ((t : Tree) → Stands bytes t → LeadsBack bytes edit t) → Plans bytes edit (Ok planned.Same)
same_plan bytes edit h = record {
  answer = λ t s.
      let (new, u, leads, same) = h t s in
      subst (λ c. IsAnswer c (depth (edited edit t)) (canonical_length (edited edit t)) (Ok planned.Same)) (sym (ap (finished bytes t) leads ∙ ends_same bytes new t u same)) tt;
  stands = λ t s. tt;
  encoded = λ t s. tt;
}

-- to one that is too deep
abbrev pub LeadsDeep : List ℕ → Edit → Tree → Type 0
LeadsDeep bytes edit t = (new : List ℕ) × (u : Tree) × (progress edit (in_place bytes t) ≡ in_place new u) × (100 < depth u)

-- for an edit that leads to a tree that is too deep the plan is refused as too deep
pub deep_plan : (bytes : List ℕ) (edit : Edit) → ((t : Tree) → Stands bytes t → LeadsDeep bytes edit t) → Plans bytes edit (Err Deep)
deep_plan bytes edit h = record {
  answer = λ t s.
      let (new, u, leads, high) = h t s in
      (subst IsOther (sym (ap (finished bytes t) leads)) (deep_other bytes new t u s high), subst (λ v. 100 < depth v) (sym (edited_is bytes new edit t u leads)) high);
  stands = λ t s. tt;
  encoded = λ t s. tt;
}

-- to another one, for which new bytes stand
pub record LeadsOn (bytes : List ℕ) (edit : Edit) (t : Tree) (parts : Changed) : Type 0 where
  pub new : List ℕ
  pub other : Tree
  pub leads : progress edit (in_place bytes t) ≡ in_place new other
  pub apart : same_tree t other ≡ false
  pub shallow : depth other ≤ 100
  pub stands : StandFor new other
  pub long : length new ≡ length bytes
  pub parts_are : runs_of parts ≡ runs bytes new

made_standing : (bytes : List ℕ) (edit : Edit) (t : Tree) (parts : Changed) → LeadsOn bytes edit t parts → MakeStanding bytes (edited edit t) (runs_of parts)
made_standing bytes edit t parts h =
    let made : put_all (runs bytes h.new) bytes ≡ h.new = runs_applied bytes h.new (sym h.long) in
    let s = h.stands in
    let stands : Stands h.new h.other = record { «tree» = s.is; nested = h.shallow; some = s.some; value = s.value; whole = s.whole } in
    subst (MakeStanding bytes (edited edit t)) (sym h.parts_are) (
      runs_within bytes h.new (sym h.long),
      subst (λ b. Stands b (edited edit t)) (sym made) (subst (Stands h.new) (sym (edited_is bytes h.new edit t h.other h.leads)) stands),
      ap length made ∙ h.long,
    )

-- for an edit that leads on to another tree in place the plan is the patches of its runs
pub parts_plan : (bytes : List ℕ) (edit : Edit) (parts : Changed) → ((t : Tree) → Stands bytes t → LeadsOn bytes edit t parts) → Plans bytes edit (Ok (planned.Parts parts))
parts_plan bytes edit parts h = record {
  answer = λ t s.
      let to = h t s in
      subst (λ c. IsAnswer c (depth (edited edit t)) (canonical_length (edited edit t)) (Ok (planned.Parts parts))) (sym (ap (finished bytes t) to.leads ∙ ends_other bytes to.new t to.other to.apart))
      (subst (λ v. depth v ≤ 100) (sym (edited_is bytes to.new edit t to.other to.leads)) to.shallow, to.parts_are);
  stands = λ t s. made_standing bytes edit t parts (h t s);
  encoded = λ t s. tt;
}
