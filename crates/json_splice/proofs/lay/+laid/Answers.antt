use Rattle.std.proofs.Common.{◌≡◌, ◌-◌, ◌<◌, ◌≤◌, ℕ, List, length, take, drop, slice_index, IfOk, IfSome, sym, ap, subst, ◌∙◌, arith}
use Rattle.tree_model.specs.Tree.{Tree, Trees, depth}
use Rattle.binary_model.specs.Layout.{count}
use Rattle.binary_model.specs.Stands.{IsValue}
use Rattle.binary_model.specs.Canonical.{spelling, spellings}
use Rattle.binary_model.proofs.in_place.RefitLemmas.{with_element}
use Rattle.binary_model.proofs.in_place.PositionLemmas.{put_at}
use Rattle.json_binary.specs.Place.{container_of, spot_of}
use Rattle.json_binary.specs.Writing.{spelling_of}
use Rattle.json_splice.specs.Spelled.{NamesKeys, HoldsTrees, container_spelling}
use Rattle.json_splice.specs.Parts.{keys_in, parts_in}
use Rattle.json_splice.proofs.PartsLemmas.{laid_is, parted, on_found}
use Rattle.json_splice.proofs.lay.+laid.Goals as goal

pub returns : goal.returns
returns t c =
    let bytes = c.args.bytes.now in
    let d = container_of c.in-Some.container in
    let number = slice_index c.args.positions.now 0 in
    let rest = take (length c.args.positions.now - 1) (drop 1 c.args.positions.now) in
    let x = c.in-Some-2.value in
    let inner : (u w : Tree) → IsValue bytes u (spot_of c.in-Some-child.inner) → depth u ≤ c.args.nesting - 1 → spelling_of c.args.value ≡ spelling w → spelling_of x ≡ spelling (put_at rest w u) =
    subst (λ o. IfSome o (λ s. (u w : Tree) → IsValue bytes u (spot_of c.in-Some-child.inner) → depth u ≤ c.args.nesting - 1 → spelling_of c.args.value ≡ spelling w → spelling_of s ≡ spelling (put_at rest w u))) c.in-Some-2.is c.in_ok-value.ensures in
    let values : (ts : Trees) (v : Tree) → HoldsTrees bytes d (c.args.nesting - 1) ts → spelling_of x ≡ spelling v → parts_in bytes x.bytes.items c.in-Some-3.values.items ≡ spellings (with_element ts number v) =
    subst (λ o. IfSome o (λ ps. (ts : Trees) (v : Tree) → HoldsTrees bytes d (c.args.nesting - 1) ts → spelling_of x ≡ spelling v → parts_in bytes x.bytes.items ps.items ≡ spellings (with_element ts number v))) c.in-Some-3.is c.in_ok-values.ensures in
    let keys : (ks : List (List ℕ)) → NamesKeys bytes d ks → keys_in bytes c.in_ok-keys.keys.items ≡ ks = c.in_ok-keys.ensures in
    let low : number < count bytes d = omega (arith, c.if-count-number.false, c.count.ensures.count) in
    on_found (λ s. spelling_of s ≡ container_spelling d.is_object (keys_in bytes c.in_ok-keys.keys.items) (parts_in bytes x.bytes.items c.in-Some-3.values.items)) _ c.spelled.result
    (λ s is u w v deep e. laid_is bytes (spot_of c.args.spot) d w number c.args.nesting rest (spelling_of x) (spelling_of s) (keys_in bytes c.in_ok-keys.keys.items) (parts_in bytes x.bytes.items c.in-Some-3.values.items) c.in-Some.ensures.place low u v deep
    (λ k stands shallow. inner k w (subst (IsValue bytes k) (sym c.in-Some-child.ensures.place) stands) shallow e) keys values is ∙ ap (λ ks. spelling (put_at ks w u)) (sym (parted c.args.positions.now c.in-len1-up.len_at_least)))
    (subst (λ v. IfOk c.spelled.result (λ found. IfSome found (λ s. spelling_of s ≡ v))) (λ i. container_spelling d.is_object (keys_in bytes (c.deref-2.ensures.value i)) (parts_in bytes (c.deref.ensures.value i) (c.deref-3.ensures.value i))) c.spelled.ensures)
