-- The bytes of each document in a history stand for its tree.
use Rattle.std.proofs.Common.{◌≡◌, ℕ, zero, suc, ◌+◌, ◌≤◌, ◌<◌, ◌^◌, Bool, true, false, true≢false, not, nat_eq, nat_lt, cond, List, [], ◌∷◌, length, map, Option, Some, None, IfSome, refl, sym, ap, subst, ◌∙◌, arith, if◌then◌else◌}
use Rattle.std.specs.List.{filter}
use Rattle.tree_model.specs.Tree.{Tree, IsTree, depth}
use Rattle.tree_model.specs.Same.{same_tree}
use Rattle.tree_model.specs.Edit.{Edit, edited}
use Rattle.binary_model.specs.Stands.{IsBytes, max_nested}
use Rattle.binary_model.specs.Canonical.{canonical, spelling}
use Rattle.binary_model.specs.Change as bytes
use Rattle.binary_model.specs.Change.{Progress, progress, stored_as, Run, put_all, SetsTrees, differing}
use Rattle.binary_model.proofs.ByteLemmas.{spelled_bytes, code_low}
use Rattle.binary_model.proofs.canonical.RoundLemmas.{canonical_stands}
use Rattle.binary_model.proofs.in_place.ChangeLemmas.{same_edits}
use Rattle.binary_model.proofs.in_place.EditLemmas.{edits_are, edits_are_bytes}
use Rattle.journal_model.specs.Documents.{Docs, Call, Insert, Change, Delete, call_doc, look, Kept, fresh, changed, change_of}
use Rattle.journal_model.specs.Journal.{Script, statement, call, Reply, deep, large, full, part as parted, Entry, Start, View, Wait, Did, Commit, Undone, Purged, Audited, Restart, Opening}
use Rattle.journal_model.specs.Part.{is_ok_reply, made, commits_of, purged_of, docs, newest}
use Rattle.journal_model.specs.Legal.{IsLegal, Answer, CallAnswer}
use Rattle.journal_model.specs.Held.{Kind}
use Rattle.journal_model.specs.Replies.{reply_to, is_too_deep, is_too_large, full_reply, insert_reply, changed_reply, edit_reply}
use Rattle.journal_model.specs.History.{Owner, commit, Made, left_by, seen_in, newest_in, is_sessions, is_committed, is_among, is_newest_for, owned_anew, above, pushed, with_call, changes_of, history}
use Rattle.history_model.specs.Scripts.{HasPaths, IsCall, IsStatement, HasStatements, IsStanding, MayStand, AllLeft, AllStand}
use Rattle.history_model.specs.Laws.{IsRun}
use Rattle.history_model.proofs.LockLemmas.{eq_is}
use Rattle.history_model.proofs.OutsideLemmas.{answered_as}
use Rattle.history_model.proofs.OwnerLemmas.{made_as}
use Rattle.history_model.proofs.MadeLemmas.{table_of}
use Rattle.history_model.proofs.HistoryLemmas.{reads_at, reads_own, purged_made}
use Rattle.history_model.proofs.TreeLemmas.{edited_is}

canonical_bytes : (t : Tree) → IsTree t → IsBytes (canonical t)
canonical_bytes t is zero = code_low (spelling t).0
canonical_bytes t is (suc i) = spelled_bytes t is i

new_stands : (t : Tree) → IsTree t → is_too_deep t ≡ false → is_too_large (canonical t) ≡ false → IsStanding (t, canonical t)
new_stands t is shallow small =
    let low : depth t ≤ max_nested = grind (arith, shallow) in
    let few : length (canonical t) < 2 ^ 32 = grind (arith, small) in
    record { octets = canonical_bytes t is; stands = canonical_stands t is low few }

full_ok : (bs : List ℕ) → is_ok_reply (full_reply bs) ≡ true → is_too_large bs ≡ false
full_ok bs h = go (is_too_large bs) refl h
  where
    go : (b : Bool) → is_too_large bs ≡ b → is_ok_reply (if b then large else full) ≡ true → is_too_large bs ≡ false
    go true e f = absurd (true≢false (sym f))
    go false e f = e

-- a change that was made is not too deep
pub unless_deep : (t : Tree) (r : Reply) → is_ok_reply (if is_too_deep t then deep else r) ≡ true → (is_too_deep t ≡ false) × (is_ok_reply r ≡ true)
unless_deep t r h = go (is_too_deep t) refl h
  where
    go : (b : Bool) → is_too_deep t ≡ b → is_ok_reply (if b then deep else r) ≡ true → (is_too_deep t ≡ false) × (is_ok_reply r ≡ true)
    go true e f = absurd (true≢false (sym f))
    go false e f = (e, f)

-- a whole new encoding is that of the edited tree
pub full_is : (k : Kept) (e : Edit) (encoding : List ℕ) → change_of e k ≡ bytes.Full encoding → encoding ≡ canonical (edited e k.0)
full_is k e encoding h =
    by_test (same_tree k.0 last.«tree») h
  where
    first : Progress
    first = record { «tree» = k.0; edited = Some k.1 }

    last : Progress
    last = progress e (record { «tree» = k.0; edited = Some k.1 })

    by_edit : (o : Option (List ℕ)) → elim o [ None ↦ bytes.Full (canonical (progress e (record { «tree» = k.0; edited = Some k.1 })).«tree») | Some new ↦ bytes.Parts (bytes.runs k.1 new) ] ≡ bytes.Full encoding
        → encoding ≡ canonical (edited e k.0)
    by_edit None g = let same_bytes : encoding ≡ canonical (progress e (record { «tree» = k.0; edited = Some k.1 })).«tree» = cc in same_bytes ∙ ap canonical (same_edits e (record { «tree» = k.0; edited = Some k.1 }))
    by_edit (Some new) g = cc

    by_test : (b : Bool) → cond b bytes.Same (stored_as k.1 (progress e (record { «tree» = k.0; edited = Some k.1 }))) ≡ bytes.Full encoding → encoding ≡ canonical (edited e k.0)
    by_test true g = cc
    by_test false g = by_edit (progress e (record { «tree» = k.0; edited = Some k.1 })).edited g

edit_stands : (e : Edit) (k : Kept) → SetsTrees e → HasPaths e → IsStanding k → is_ok_reply (edit_reply e (Some k)) ≡ true → IsStanding (changed e k)
edit_stands e k sets paths before ok = by_change (change_of e k) refl ok
  where
    is : IsTree (edited e k.0)
    is = edited_is e k.0 sets paths before.stands.«tree»

    by_change : (ch : bytes.Change) → change_of e k ≡ ch → is_ok_reply (changed_reply (edited e k.0) ch) ≡ true → IsStanding (edited e k.0, bytes.stored k.1 (change_of e k))
    by_change bytes.Same h g = absurd (true≢false (sym g))
    by_change (bytes.Parts rs) h g =
        let shallow = unless_deep (edited e k.0) (parted (differing rs)) g in
        let deep_enough : is_too_deep (edited e k.0) ≡ false = shallow.0 in
        let low : depth (edited e k.0) ≤ max_nested = grind (arith, deep_enough) in
        subst (λ c. IsStanding (edited e k.0, bytes.stored k.1 c)) (sym h) (record {
          octets = edits_are_bytes k.1 k.0 e rs before.octets before.stands sets h;
          stands = (edits_are k.1 k.0 e rs before.octets before.stands sets low h).0;
        })
    by_change (bytes.Full encoding) h g =
        let shallow = unless_deep (edited e k.0) (full_reply encoding) g in
        let fits = full_ok encoding shallow.1 in
        let whole : encoding ≡ canonical (edited e k.0) = full_is k e encoding h in
        subst (λ c. IsStanding (edited e k.0, bytes.stored k.1 c)) (sym h)
        (subst (λ b. IsStanding (edited e k.0, b)) (sym whole) (new_stands (edited e k.0) is shallow.0 (subst (λ b. is_too_large b ≡ false) whole fits)))

-- ---- what a made call leaves

insert_stands : (t : Tree) (x : Option Kept) → IsTree t → is_ok_reply (insert_reply t x) ≡ true → IsStanding (fresh t)
insert_stands t (Some k) is h = absurd (true≢false (sym h))
insert_stands t None is h = let shallow = unless_deep t (full_reply (canonical t)) h in new_stands t is shallow.0 (full_ok (canonical t) shallow.1)

call_stands : (c : Call) (now : Docs Kept) (x : Option Kept) → IsCall c → look now (call_doc c) ≡ x → MayStand x → is_ok_reply (reply_to c now) ≡ true → MayStand (left_by c x)
call_stands (Insert d t) now x is at h ok = insert_stands t (look now d) is ok
call_stands (Change d e) now None is at h ok = tt
call_stands (Change d e) now (Some k) is at h ok = edit_stands e k is.0 is.1 h (subst (λ y. is_ok_reply (edit_reply e y) ≡ true) at ok)
call_stands (Delete d) now x is at h ok = tt

-- ---- lists of changes

-- what is seen stands for its tree, where all that is kept does
pub seen_stands : (f : Owner → Bool) (ms : List Made) (base : Option Kept) → AllLeft ms → MayStand base → MayStand (seen_in f ms base)
unfolding AllLeft
seen_stands f [] base h g = g
seen_stands f (m ∷ ms) base h g = by_test (f m.owner) (seen_stands f ms base h.1 g)
  where
    by_test : (b : Bool) → MayStand (seen_in f ms base) → MayStand (if b then m.left else seen_in f ms base)
    by_test true rest = h.0
    by_test false rest = rest

renamed_left : (t n : ℕ) (ms : List Made) → AllLeft ms → AllLeft (map (owned_anew t n) ms)
unfolding AllLeft
renamed_left t n [] h = tt
renamed_left t n (m ∷ ms) h = (h.0, renamed_left t n ms h.1)

without_left : (out : Owner → Bool) (ms : List Made) → AllLeft ms → AllLeft (filter (λ m. not (out m.owner)) ms)
unfolding AllLeft
without_left out [] h = tt
without_left out (m ∷ ms) h = by_test (out m.owner) (without_left out ms h.1)
  where
    by_test : (x : Bool) → AllLeft (filter (λ m. not (out m.owner)) ms) → AllLeft (cond (not x) (m ∷ filter (λ m. not (out m.owner)) ms) (filter (λ m. not (out m.owner)) ms))
    by_test true rest = rest
    by_test false rest = (h.0, rest)

above_left : (n : ℕ) (ms : List Made) → AllLeft ms → AllLeft (above n ms)
unfolding AllLeft
above_left n [] h = tt
above_left n (m ∷ ms) h = by_test (is_among n m.owner) (above_left n ms h.1)
  where
    by_test : (x : Bool) → AllLeft (above n ms) → AllLeft (if x then [] else m ∷ above n ms)
    by_test true rest = tt
    by_test false rest = (h.0, rest)

opening_left : (d : ℕ) (now : Option Kept) (cs : List (ℕ × ℕ × Kind)) → MayStand now → AllLeft (changes_of d now cs)
unfolding AllLeft
opening_left d now [] h = tt
opening_left d now (c ∷ cs) h = by_test (nat_eq c.1 d) (opening_left d now cs h)
  where
    by_test : (x : Bool) → AllLeft (changes_of d now cs) → AllLeft (if x then record { owner = commit c.0; kind = c.2; left = now } ∷ changes_of d now cs else changes_of d now cs)
    by_test true rest = (h, rest)
    by_test false rest = rest

-- ---- along a journal

module _ (o : Opening) (script : Script) (run : IsRun o script) (statements : HasStatements script) (opened : (d : ℕ) → MayStand (look o.documents d)) where
  -- all that a history keeps stands for its tree
  pub all_stand : (past : List Entry) (d : ℕ) → IsLegal o script past → AllStand (history o script past d)
  unfolding AllLeft
  all_stand [] d legal = record { below = opened d; left = opening_left d (look o.documents d) o.changes (opened d) }
  all_stand (Start t i ∷ past) d legal = all_stand past d legal.0
  all_stand (View t k ∷ past) d legal = all_stand past d legal.0
  all_stand (Wait t e g ∷ past) d legal = all_stand past d legal.0
  all_stand (Audited a ∷ past) d legal = all_stand past d legal.0
  all_stand (Did t i r ∷ past) d legal = by_made (made (statement script t i) r) refl (all_stand past d legal.0)
    where
      left_stands : (c : Call) → made (statement script t i) r ≡ Some c → nat_eq (call_doc c) d ≡ true → AllStand (history o script past d) → MayStand (left_by c (newest_in t (history o script past d)))
      left_stands c e f before =
          let as_call : statement script t i ≡ Some (call c) = (made_as (statement script t i) r c e).0 in
          let good : is_ok_reply r ≡ true = (made_as (statement script t i) r c e).1 in
          let answer : CallAnswer o script t c r past =
          subst (λ x. IfSome x (λ st. Answer o script t st r past)) as_call (answered_as o script t i r past (λ g. true≢false (sym good ∙ ap is_ok_reply g)) legal.1.1.1) in
          let is : IsCall c = subst (λ x. IfSome x IsStatement) as_call (statements t i) in
          call_stands c (newest o script t past) (newest_in t (history o script past d)) is
          (ap (look (newest o script t past)) (eq_is (call_doc c) d f) ∙ reads_own o script past run legal.0 t d)
          (seen_stands (is_newest_for t) (history o script past d).changes (history o script past d).base before.left before.below)
          (ap is_ok_reply (sym (table_of o script t c r past good answer)) ∙ good)

      by_doc : (c : Call) (b : Bool) → made (statement script t i) r ≡ Some c → nat_eq (call_doc c) d ≡ b → AllStand (history o script past d)
          → AllStand (if b then pushed t c (history o script past d) else history o script past d)
      by_doc c true e f before = record { below = before.below; left = (left_stands c e f before, before.left) }
      by_doc c false e f before = before

      by_made : (m : Option Call) → made (statement script t i) r ≡ m → AllStand (history o script past d) → AllStand (with_call d t m (history o script past d))
      by_made None e before = before
      by_made (Some c) e before = by_doc c (nat_eq (call_doc c) d) e refl before
  all_stand (Commit t n ∷ past) d legal = let b = all_stand past d legal.0 in record { below = b.below; left = renamed_left t n (history o script past d).changes b.left }
  all_stand (Undone t u ∷ past) d legal = let b = all_stand past d legal.0 in record { below = b.below; left = without_left (is_sessions t) (history o script past d).changes b.left }
  all_stand (Restart k ∷ past) d legal = let b = all_stand past d legal.0 in record { below = b.below; left = without_left (λ w. not (is_committed w)) (history o script past d).changes b.left }
  all_stand (Purged n ∷ past) d legal =
      let b = all_stand past d legal.0 in
      record { below = seen_stands (is_among n) (history o script past d).changes (history o script past d).base b.left b.below; left = above_left n (history o script past d).changes b.left }

  -- and so do a session's newest documents
  pub newest_stand : (past : List Entry) (s d : ℕ) → IsLegal o script past → MayStand (look (newest o script s past) d)
  newest_stand past s d legal =
      let b = all_stand past d legal in
      subst MayStand (sym (reads_own o script past run legal s d)) (seen_stands (is_newest_for s) (history o script past d).changes (history o script past d).base b.left b.below)

  -- also behind commits that are purged past
  pub docs_stand : (past : List Entry) (n d : ℕ) → IsLegal o script past → MayStand (look (docs o script past n) d)
  docs_stand [] n d legal = opened d
  docs_stand (Start t i ∷ past) n d legal = docs_stand past n d legal.0
  docs_stand (View t k ∷ past) n d legal = docs_stand past n d legal.0
  docs_stand (Wait t e g ∷ past) n d legal = docs_stand past n d legal.0
  docs_stand (Audited a ∷ past) n d legal = docs_stand past n d legal.0
  docs_stand (Did t i r ∷ past) n d legal = docs_stand past n d legal.0
  docs_stand (Undone t u ∷ past) n d legal = docs_stand past n d legal.0
  docs_stand (Restart k ∷ past) n d legal = docs_stand past n d legal.0
  docs_stand (Purged k ∷ past) n d legal = docs_stand past n d legal.0
  docs_stand (Commit t c ∷ past) n d legal = by_number (nat_lt n c) refl (docs_stand past n d legal.0)
    where
      few : purged_of o past ≤ commits_of o past
      few = purged_made o script run.numbered run.falling run.made past legal.0

      next : c ≡ commits_of o past + 1
      next = legal.1.1.0

      by_number : (b : Bool) → nat_lt n c ≡ b → MayStand (look (docs o script past n) d) → MayStand (look (docs o script (Commit t c ∷ past) n) d)
      by_number true e before = rw e before
      by_number false e before =
          let later : c ≤ n = grind (arith, e) in
          let b = all_stand (Commit t c ∷ past) d legal in
          subst MayStand (sym (reads_at o script (Commit t c ∷ past) run legal n d (omega (arith, few, next, later))))
          (seen_stands (is_among n) (history o script (Commit t c ∷ past) d).changes (history o script (Commit t c ∷ past) d).base b.left b.below)
