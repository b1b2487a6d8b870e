use Rattle.std.proofs.Common.{◌∙◌, IfSome, option_map, sym, subst}
use Rattle.tree_model.specs.Tree.{IsTree}
use Rattle.binary_model.specs.Stands.{IsValue}
use Rattle.binary_model.specs.Canonical.{spelling}
use Rattle.binary_model.specs.Change.{with_value}
use Rattle.json_tree.specs.View.{tree_of}
use Rattle.json_binary.specs.Place.{container_of}
use Rattle.json_patch.specs.declared.lead.End.TheVariants as end
use Rattle.json_patch.specs.declared.pair.Made.TheVariants.{Kept, Anew}
use Rattle.json_patch.specs.Writes.{AreWritesFor}
use Rattle.json_patch.specs.Made.{Makes}
use Rattle.json_patch.proofs.LeadLemmas.{led_to}
use Rattle.json_patch.proofs.DraftLemmas.{root_kept, root_anew, added_anew, nothing_added, nothing_replaced, value_there, value_kept, value_anew, value_put}
use Rattle.json_patch.proofs.pair.make_pair.Goals.{else-adding-via-then-adding+else-adds, else-adding-via-else-adding}
use Rattle.json_patch.proofs.pair.make_pair.Goals as goal

pub returns-then-equals : goal.returns-then-equals
returns-then-equals c =
    let bytes = c.args.bytes.now in
    let path = c.args.pair.now.path in
    let v = tree_of c.args.pair.now.value in
    λ u h. let at = led_to bytes u _ path c.in_ok-led.led end.Root (c.in_ok-led.ensures.led u h.is h.value) c.legs.ensures.legs c.in-Root.is in
    root_kept bytes c.args.adding path v u h at.0 (sym (c.equals.ensures u (subst (IsValue bytes u) (sym c.root.ensures.place) h.value)) ∙ c.if-equals.true)

pub returns-else-equals : goal.returns-else-equals
returns-else-equals c =
    let bytes = c.args.bytes.now in
    let path = c.args.pair.now.path in
    let v = tree_of c.args.pair.now.value in
    λ u h. let at = led_to bytes u _ path c.in_ok-led.led end.Root (c.in_ok-led.ensures.led u h.is h.value) c.legs.ensures.legs c.in-Root.is in
    root_anew bytes c.args.adding path v u h at.0 (sym (c.equals.ensures u (subst (IsValue bytes u) (sym c.root.ensures.place) h.value)) ∙ c.if-equals.false)

pub returns-then-adds : goal.returns-then-adds
returns-then-adds c =
    let bytes = c.args.bytes.now in
    let path = c.args.pair.now.path in
    let v = tree_of c.args.pair.now.value in
    λ u h. let at = led_to bytes u _ path c.in_ok-led.led (end.Nothing c.in-Nothing.adds) (c.in_ok-led.ensures.led u h.is h.value) c.legs.ensures.legs c.in-Nothing.is in
    subst (λ b. Makes bytes u b path v Anew) (sym c.if-adding.true) (added_anew bytes path v u c.in-Nothing.adds h at.0.0 at.0.1 c.if-adds.true)

pub returns-else-adding : goal.returns-else-adding
returns-else-adding c =
    let bytes = c.args.bytes.now in
    let path = c.args.pair.now.path in
    let v = tree_of c.args.pair.now.value in
    λ u h. let at = led_to bytes u _ path c.in_ok-led.led (end.Nothing c.in-Nothing.adds) (c.in_ok-led.ensures.led u h.is h.value) c.legs.ensures.legs c.in-Nothing.is in
    elim c.else-adding.branch [
      | else-adding-via-then-adding+else-adds w ↦ subst (λ b. Makes bytes u b path v Kept) (sym w.if-adding.true) (nothing_added bytes path v u c.in-Nothing.adds h at.0.0 at.0.1 w.if-adds.false)
      | else-adding-via-else-adding w ↦ subst (λ b. Makes bytes u b path v Kept) (sym w.if-adding.false) (nothing_replaced bytes path v u at.0.0)
    ]

pub returns-then-equals-2 : goal.returns-then-equals-2
returns-then-equals-2 c =
    let bytes = c.args.bytes.now in
    let path = c.args.pair.now.path in
    let v = tree_of c.args.pair.now.value in
    let p = c.in-Value.place in
    let ks = c.in_ok-led.led.positions.items in
    λ u h. let (at, a) = (led_to bytes u _ path c.in_ok-led.led (end.Value p) (c.in_ok-led.ensures.led u h.is h.value) c.legs.ensures.legs c.in-Value.is).0 in
    let there = subst (IsValue bytes _) (sym a.kid.spot) (value_there bytes c.args.adding path v u h ks p at a) in
    value_kept bytes c.args.adding path v u h ks p at a (sym (c.equals-in-Value.ensures _ there) ∙ c.if-equals-2.true)

pub returns-in-None : goal.returns-in-None
returns-in-None c =
    let bytes = c.args.bytes.now in
    let path = c.args.pair.now.path in
    let v = tree_of c.args.pair.now.value in
    let p = c.in-Value.place in
    let ks = c.in_ok-led.led.positions.items in
    let none = subst (λ f. AreWritesFor bytes (with_value bytes (spelling v) (container_of p.container) p.number) (option_map (λ ws. ws.items) f)) c.in-None.is c.in_ok-writes-in-Value.ensures.writes in
    λ u h. let (at, a) = (led_to bytes u _ path c.in_ok-led.led (end.Value p) (c.in_ok-led.ensures.led u h.is h.value) c.legs.ensures.legs c.in-Value.is).0 in
    let there = subst (IsValue bytes _) (sym a.kid.spot) (value_there bytes c.args.adding path v u h ks p at a) in
    value_anew bytes c.args.adding path v u h ks p at a (sym (c.equals-in-Value.ensures _ there) ∙ c.if-equals-2.false) none

pub returns-in-Some : goal.returns-in-Some
returns-in-Some c =
    let bytes = c.args.bytes.now in
    let path = c.args.pair.now.path in
    let v = tree_of c.args.pair.now.value in
    let p = c.in-Value.place in
    let ks = c.in_ok-led.led.positions.items in
    let ws = c.in-Some.writes.items in
    let made = subst (λ f. AreWritesFor bytes (with_value bytes (spelling v) (container_of p.container) p.number) (option_map (λ ws. ws.items) f)) c.in-Some.is c.in_ok-writes-in-Value.ensures.writes in
    let is = subst (λ f. IfSome f (λ ws. IsTree v)) c.in-Some.is c.in_ok-writes-in-Value.ensures.is_tree in
    λ u h. let (at, a) = (led_to bytes u _ path c.in_ok-led.led (end.Value p) (c.in_ok-led.ensures.led u h.is h.value) c.legs.ensures.legs c.in-Value.is).0 in
    let there = subst (IsValue bytes _) (sym a.kid.spot) (value_there bytes c.args.adding path v u h ks p at a) in
    value_put bytes c.args.adding path v u h ks p at a ws (sym (c.equals-in-Value.ensures _ there) ∙ c.if-equals-2.false) is made
