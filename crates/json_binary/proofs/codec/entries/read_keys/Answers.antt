use Rattle.std.proofs.Common.{◌≡◌, ◌-◌, ◌+◌, ◌∙◌, [], None, Ok, Err, IfSome, sym, ap, subst, arith, length, slice_get}
use Rattle.std.specs.Option.{option_copied}
use Rattle.binary_model.specs.Layout.{entries_end, count}
use Rattle.binary_model.specs.FirstFault.{read_keys}
use Rattle.json_binary.specs.Place.{container_of}
use Rattle.json_binary.specs.Decoding.{fault_of, next_key}
use Rattle.json_binary.proofs.DecodeLemmas.{exits}
use Rattle.json_binary.proofs.KeyLemmas.{kept, last_of, last_is, last_none, none_kept, keys_bad, keys_go_on, keys_done}
use Rattle.json_binary.proofs.codec.entries.read_keys.Goals as goal

pub loop-k-init : goal.loop-k-init
loop-k-init c =
    let bytes = c.args.bytes.now in
    let d = container_of c.args.container in
    let m = c.count-count.result in
    let z : m - 0 ≡ m = omega arith in
    ap (λ n. kept c.in_ok-keys.keys.items (read_keys bytes d n 0 c.entries_end-floor.result (last_of c.in_ok-keys.keys.items))) z
    ∙ ap (λ ks. kept ks (read_keys bytes d m 0 c.entries_end-floor.result (last_of ks))) c.in_ok-keys.ensures.items
    ∙ none_kept (read_keys bytes d m 0 c.entries_end-floor.result (last_of []))
    ∙ (λ i. read_keys bytes d (c.count-count.ensures.count i) 0 (c.entries_end-floor.ensures i) (last_none i))

pub returns-in_err-key : goal.returns-in_err-key
returns-in_err-key c =
    let bytes = c.args.bytes.now in
    let d = container_of c.args.container in
    let e = c.in_err-key.field-0.0 in
    let total = read_keys bytes d (count bytes d) 0 (entries_end bytes d) None in
    let last : option_copied c.last.result ≡ last_of c.loop-k.keys.items = c.last.ensures.value ∙ ap (λ ks. slice_get ks (length ks - 1)) c.deref.ensures.value ∙ last_is c.loop-k.keys.items in
    let bad = subst (λ b. IfSome (fault_of e) (λ f. next_key bytes d c.loop-k.k c.loop-k.floor b ≡ Err f)) last c.in_err-key.ensures in
    exits (λ keys. keys.items) c.from_residual-in_err-key.result e total c.from_residual-in_err-key.ensures.1
    (keys_bad bytes d (fault_of e) c.loop-k.keys.items c.count-count.result c.loop-k.k c.loop-k.floor (last_of c.loop-k.keys.items) total c.loop-k-test.true bad c.loop-k.invariant)

pub loop-k-preserved : goal.loop-k-preserved
loop-k-preserved c =
    let bytes = c.args.bytes.now in
    let d = container_of c.args.container in
    let total = read_keys bytes d (count bytes d) 0 (entries_end bytes d) None in
    let last : option_copied c.last.result ≡ last_of c.loop-k.keys.items = c.last.ensures.value ∙ ap (λ ks. slice_get ks (length ks - 1)) c.deref.ensures.value ∙ last_is c.loop-k.keys.items in
    let found = subst (λ b. next_key bytes d c.loop-k.k c.loop-k.floor b ≡ Ok c.in_ok-key.key) last c.in_ok-key.ensures in
    let more = keys_go_on bytes d c.loop-k.keys.items c.count-count.result c.loop-k.k c.loop-k.floor c.key_range-floor.result.1 c.in_ok-key.key total c.loop-k-test.true found c.key_range-floor.ensures.to c.loop-k.invariant in
    subst (λ ks. kept ks (read_keys bytes d (c.count-count.result - (c.loop-k.k + 1)) (c.loop-k.k + 1) c.key_range-floor.result.1 (last_of ks)) ≡ total) (sym c.in_ok-push.ensures.items) more

pub returns : goal.returns
returns c =
    let bytes = c.args.bytes.now in
    let d = container_of c.args.container in
    keys_done bytes d c.loop-k.keys.items c.count-count.result c.loop-k.k c.loop-k.floor (last_of c.loop-k.keys.items) (read_keys bytes d (count bytes d) 0 (entries_end bytes d) None) c.loop-k-test.false c.loop-k.invariant
