use Rattle.std.proofs.Common.{◌≡◌, ◌-◌, ◌<◌, length, subst, ap, arith, rules}
use Rattle.binary_model.specs.Layout.{key_at, key_end}
use Rattle.binary_model.specs.Stands.{IsBytes}
use Rattle.json_binary.specs.Place.{container_of}
use Rattle.json_splice.specs.Spelled.{HasKeys}
use Rattle.json_splice.proofs.KeysLemmas.{keys_more, keys_longer, keys_inside, key_entry_inside, keys_found}
use Rattle.json_splice.proofs.keys.object_keys_size.Goals as goal

pub loop-k-preserved : goal.loop-k-preserved
loop-k-preserved c =
    let bytes = c.args.bytes.now in
    let d = container_of c.args.container in
    let k = c.loop-k.k in
    let octets : IsBytes bytes = search rules in
    let from = c.key_range-start.ensures.from in
    let to = c.key_range-start.ensures.to in
    let here : key_at bytes d k - d.at ≡ c.loop-k.at = omega (arith, from, c.if-start-container.false) in
    let next = c.key_range-start.result.1 - d.at in (
      omega (arith, c.loop-k.invariant.0, from, to, c.if-start-container.false),
      (λ ks start a n.
          let low : k < length ks = omega (arith, n, c.loop-k-test.true, c.count-k-end.ensures.count) in
          let so_far = c.loop-k.invariant.1 ks start a n in
          let e : next ≡ key_end bytes d k - d.at = ap (λ n. n - d.at) to in (
            keys_more bytes d k c.loop-k.at c.args.offset start ks a low c.requires.framed.1 here next octets (key_entry_inside bytes d k c.requires.object c.requires.framed (omega (arith, c.loop-k-test.true, c.count-k-end.ensures.count))) e so_far.0,
            keys_longer bytes d k c.loop-k.at c.args.offset start ks a low c.requires.framed.1 here next _ e so_far.1,
            keys_inside bytes d k c.loop-k.at c.args.offset start ks a low c.requires.framed.1 here next e,
          )),
    )

pub returns : goal.returns
returns c =
    let bytes = c.args.bytes.now in
    let d = container_of c.args.container in
    λ ks names.
    let h = subst (HasKeys bytes d ks) c.requires.object names in
    let so_far = c.loop-k.invariant.1 ks h.1.0 h.1.1 h.0 in
    keys_found bytes d c.loop-k.k c.args.offset c.loop-k.at ks c.requires.object c.requires.framed h.0 (omega (arith, h.0, c.loop-k-test.false, c.count-k-end.ensures.count)) so_far.0 so_far.1 so_far.2
