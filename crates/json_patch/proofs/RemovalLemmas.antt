-- Removals by one path and by several, one after the other, and what is stored for them.
use Rattle.std.proofs.Common.{◌≡◌, ℕ, ◌≤◌, ◌<◌, Bool, true, false, true≢false, Option, is_some, option_map, option_and_then, List, [], ◌∷◌, length, Some, None, unwrap_or, refl, sym, ap, ap₂, subst, ◌∙◌, arith}
use Rattle.tree_model.specs.Tree.{Tree}
use Rattle.tree_model.specs.Path.{Path}
use Rattle.tree_model.specs.Same.{same_tree}
use Rattle.tree_model.specs.Edit as model
use Rattle.tree_model.specs.Edit.{remove, try_remove}
use Rattle.tree_model.proofs.SameLemmas.{tree_equal, tree_itself}
use Rattle.binary_model.specs.Stands.{Stands}
use Rattle.binary_model.specs.Layout as layout
use Rattle.binary_model.specs.Change.{positions, at_holder, runs, all_removed, without_value}
use Rattle.json_binary.specs.Place.{container_of}
use Rattle.json_patch.specs.declared.lead.Place.{Place}
use Rattle.json_patch.specs.Led.{ActsThere}
use Rattle.json_patch.specs.declared.parts.Parts.{Parts as Changed}
use Rattle.json_patch.specs.declared.writes.Write.{Write}
use Rattle.json_patch.specs.View.{runs_of}
use Rattle.json_patch.specs.Writes.{put_writes, AreWrites}
use Rattle.json_patch.specs.Touched.{weight}
use Rattle.json_patch.specs.Made.{StandFor, in_place, taking, Takes, TakesOut}
use Rattle.json_patch.specs.Removal.{Lighter, Reached}
use Rattle.json_patch.proofs.PlanLemmas.{stands_on, writes_length, LeadsBack, LeadsOn}
use Rattle.json_patch.proofs.SingleLemmas.{step_same, step_other}
use Rattle.json_patch.proofs.OutLemmas.{out_less}

-- ---- one path

some_of : {X : Type 0} (o : Option X) → is_some o ≡ true → (x : X) × (o ≡ Some x)
some_of None e = absurd (true≢false (sym e))
some_of (Some x) e = (x, refl)

-- where a path takes a value out, the writes that take it out of its container make the removal
pub value_taken : (bytes : List ℕ) (t : Tree) (path : Path) (ks : List ℕ) (p : Place) (ws : List Write) → positions path t ≡ Some ks → ActsThere bytes ks p → is_some (try_remove path t) ≡ true
    → AreWrites bytes (without_value bytes (container_of p.container) p.number) ws → TakesOut bytes t path ws
value_taken bytes t path ks p ws at a some w =
    let out = some_of (try_remove path t) some in
    let there = ap (option_and_then (at_holder bytes (without_value bytes) (layout.root bytes))) at ∙ a.acts (without_value bytes) in
    record { other = out.0; out = out.1; writes = record { made = there ∙ w.made; inside = w.inside; rising = w.rising } }

-- a lighter tree is another one
lighter_apart : (t u : Tree) → weight u < weight t → same_tree t u ≡ false
lighter_apart t u less = by_same (same_tree t u) refl
  where
    by_same : (b : Bool) → same_tree t u ≡ b → same_tree t u ≡ false
    by_same true e = let same : weight t ≡ weight u = ap weight (tree_equal t u e) in absurd (omega (arith, less, same))
    by_same false e = e

-- where no writes are found for the removal by a path, the path takes nothing out
pub none_taken : {V : Type 0} (bytes : List ℕ) (t : Tree) (path : Path) (items : V → List Write) (found : Option V) → ((v : V) → found ≡ Some v → ⊥) → Takes bytes t path (option_map items found) → try_remove path t ≡ None
none_taken bytes t path items None never h = h
none_taken bytes t path items (Some v) never h = absurd (never v refl)

-- a removal by a path that takes nothing out reaches the same bytes and tree
pub kept_step : (bytes : List ℕ) (t : Tree) (path : Path) → StandFor bytes t → try_remove path t ≡ None → Reached bytes t (path ∷ []) [] bytes false
kept_step bytes t path stands none =
    let kept : remove path t ≡ t = ap (λ o. unwrap_or o t) none in
    let same : same_tree t (remove path t) ≡ true = ap (same_tree t) kept ∙ tree_itself t in
    record {
      other = t;
      leads_on = sym (step_same (taking path t) (remove path t) (in_place bytes t) same);
      stands = stands;
      long = refl;
      shallow = omega arith;
      lighter = refl;
    }

-- a removal by a path that takes a value out reaches the written bytes, and a lighter tree
pub taken_step : (bytes new : List ℕ) (t : Tree) (path : Path) (ws : List Write) → StandFor bytes t → TakesOut bytes t path ws → new ≡ put_writes ws bytes → Reached bytes t (path ∷ []) [] new true
taken_step bytes new t path ws stands h made =
    let less = out_less path t h.other stands.is h.out in
    let gone : remove path t ≡ h.other = ap (λ o. unwrap_or o t) h.out in
    let apart : same_tree t (remove path t) ≡ false = ap (same_tree t) gone ∙ lighter_apart t h.other less.0 in
    let taken : taking path t bytes ≡ Some new = h.writes.made ∙ ap Some (sym made) in
    let to = step_other (taking path t) (remove path t) (in_place bytes t) apart ∙ ap₂ (λ u o. record { «tree» = u; edited = o }) gone taken in
    record {
      other = h.other;
      leads_on = sym to;
      stands = stands_on (model.Remove (path ∷ [])) bytes new t h.other tt stands to;
      long = ap length made ∙ writes_length ws bytes h.writes.inside;
      shallow = less.1;
      lighter = less.0;
    }

-- ---- one path more

no_heavier : (took : Bool) (other t : Tree) → Lighter took other t → weight other ≤ weight t
no_heavier true other t h = omega (arith, h)
no_heavier false other t h = let same : weight other ≡ weight t = ap weight h in omega (arith, same)

-- where the next path takes a value out, the paths behind it lead on, and something was taken
pub took_more : (bytes mid new : List ℕ) (t : Tree) (paths left : List Path) (path : Path) (took : Bool) → Reached bytes t paths (path ∷ left) mid took → ((u : Tree) → StandFor mid u → Reached mid u (path ∷ []) [] new true)
    → Reached bytes t paths left new true
took_more bytes mid new t paths left path took h step =
    let one = step h.other h.stands in
    let low = h.shallow in
    let lower = one.shallow in
    let less = one.lighter in
    let before = no_heavier took h.other t h.lighter in
    record {
      other = one.other;
      leads_on = ap (all_removed left) one.leads_on ∙ h.leads_on;
      stands = one.stands;
      long = one.long ∙ h.long;
      shallow = omega (arith, low, lower);
      lighter = omega (arith, less, before);
    }

-- where the next path takes nothing out, those behind it lead on, and what was taken is as before
pub kept_more : (bytes mid new : List ℕ) (t : Tree) (paths left : List Path) (path : Path) (took : Bool) → Reached bytes t paths (path ∷ left) mid took → ((u : Tree) → StandFor mid u → Reached mid u (path ∷ []) [] new false)
    → Reached bytes t paths left new took
kept_more bytes mid new t paths left path took h step =
    let one = step h.other h.stands in
    let low = h.shallow in
    let lower = one.shallow in
    record {
      other = one.other;
      leads_on = ap (all_removed left) one.leads_on ∙ h.leads_on;
      stands = one.stands;
      long = one.long ∙ h.long;
      shallow = omega (arith, low, lower);
      lighter = subst (λ u. Lighter took u t) (sym one.lighter) h.lighter;
    }

-- ---- the plan

-- removals that took nothing out lead back to an equal tree
pub leads_back : (bytes new : List ℕ) (t : Tree) (paths : List Path) → Reached bytes t paths [] new false → LeadsBack bytes (model.Remove paths) t
leads_back bytes new t paths h = (new, h.other, sym h.leads_on, ap (same_tree t) h.lighter ∙ tree_itself t)

-- removals that took values out lead on to another tree, whose patches are the runs to its bytes
pub leads_on : (bytes new : List ℕ) (t : Tree) (paths : List Path) (parts : Changed) → Stands bytes t → Reached bytes t paths [] new true → runs_of parts ≡ runs bytes new → LeadsOn bytes (model.Remove paths) t parts
leads_on bytes new t paths parts s h runs_are =
    let low = h.shallow in
    let nested = s.nested in
    record {
      new = new;
      other = h.other;
      leads = sym h.leads_on;
      apart = lighter_apart t h.other h.lighter;
      shallow = omega (arith, low, nested);
      stands = h.stands;
      long = h.long;
      parts_are = runs_are;
    }
