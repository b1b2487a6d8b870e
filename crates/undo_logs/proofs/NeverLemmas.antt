-- What a log that stands never holds: addresses that a call refuses.
use Rattle.std.proofs.Common.{◌≡◌, ◌≢◌, ℕ, ◌+◌, ◌==◌, ◌&&◌, ◌||◌, nat_lt, nat_le, Bool, true, false, List, [], ◌∷◌, length, Option, Some, None, IfSome, refl, sym, ap, ap₂, ◌∙◌, subst, arith}
use Rattle.std.proofs.lemmas.Bool.{lt-ltb, le-leb}
use Rattle.page_model.specs.Pages.{Pages, AreWhole, Address, null_page}
use Rattle.page_model.specs.Lists.{IsList, last_of, or_null}
use Rattle.store_data.specs.Store.{LogState, active, purging}
use Rattle.undo_model.specs.Data.{Record, Entry, Log}
use Rattle.undo_model.specs.Bytes.{head_size}
use Rattle.undo_model.specs.Reading.{IsRecordAt, is_place, is_previous, record_end}
use Rattle.undo_model.specs.Logs.{IsLog, AreChained, newest, last_field, next_field, node_of, pages_base, nodes_in, records_of}
use Rattle.undo_model.proofs.OptionLemmas.{some_some, not_some}
use Rattle.store_parts.specs.Appends.{newest_page_of}
use Rattle.undo_logs.specs.Reads.{HasNext}
use Rattle.undo_logs.proofs.PlaceLemmas.{newest_node}
use Rattle.undo_logs.proofs.ReadLemmas.{last_of_state, next_of_state}

-- ---- the newest page

newest_is : (pages : Pages) (l : Log) (page : ℕ) (o : Option Address) → l.page ≡ page → IsLog pages l → ((nodes : List Address) → IsList pages (pages_base page) nodes → o ≡ last_of nodes) → o ≡ Some (node_of (newest_page_of l))
newest_is pages l page o is log last =
    let list : IsList pages (pages_base page) (nodes_in l.parts) = subst (λ (n : ℕ). IsList pages (pages_base n) (nodes_in l.parts)) is log.list in
    last (nodes_in l.parts) list ∙ newest_node pages l.page l.parts log.parts

-- its node stands where nodes of pages do
pub newest_at : (pages : Pages) (l : Log) (page : ℕ) (a : Address) → l.page ≡ page → IsLog pages l → ((nodes : List Address) → IsList pages (pages_base page) nodes → Some a ≡ last_of nodes) → a.at ≡ 38
newest_at pages l page a is log last = ap (λ (x : Address). x.at) (some_some a (node_of (newest_page_of l)) (newest_is pages l page (Some a) is log last))

-- and there is one
pub newest_some : {X : Type 0} (pages : Pages) (l : Log) (page : ℕ) → l.page ≡ page → IsLog pages l → ((nodes : List Address) → IsList pages (pages_base page) nodes → None ≡ last_of nodes) → X
newest_some pages l page is log last = absurd (not_some (node_of (newest_page_of l)) (newest_is pages l page None is log last))

-- ---- addresses of records

both : (b d : Bool) → b ≡ true → d ≡ true → (b && d) ≡ true
both b d eb ed = ap₂ (λ (x y : Bool). x && y) eb ed

either : (b d : Bool) → d ≡ true → (b || d) ≡ true
either true d ed = refl
either false d ed = ed

-- a record's place is one that is allowed
pub place_of_record : (pages : Pages) (a : Address) (r : Record) (previous : Address) → IsRecordAt pages a r previous → is_place (length pages) a.page a.at ≡ true
place_of_record pages a r previous is =
    let within = is.within in
    both (nat_lt a.page (length pages)) (nat_le (a.at + head_size) record_end) (lt-ltb a.page (length pages) is.page) (le-leb (a.at + head_size) record_end (omega (arith, within)))

-- so is that of the newest record, or null
pub newest_allowed : (pages : Pages) (records : List Entry) → AreChained pages records → is_previous (length pages) (newest records).page (newest records).at ≡ true
newest_allowed pages [] chain = refl
newest_allowed pages (e ∷ older) chain = either ((e.at.page == null_page) && (e.at.at == 0)) (is_place (length pages) e.at.page e.at.at) (place_of_record pages e.at e.undo (newest older) chain.0)

-- a log that is active isn't being purged
pub not_purging : (s : LogState) → s ≡ active → s ≢ purging
not_purging s is other = absurd (let e : active ≡ purging = sym is ∙ other in cc)

module _ (told : Option Pages) (count : ℕ) (pages : Pages) (l : Log) (log : ℕ) (a : Address) (whole : AreWhole pages count) (is : told ≡ Some pages) (same : l.page ≡ log) (stands : IsLog pages l) where
  allowed_by : (b : Address) → a ≡ b → is_previous (length pages) b.page b.at ≡ true → is_previous count a.page a.at ≡ true
  allowed_by b e allowed = subst (λ (n : ℕ). is_previous n a.page a.at ≡ true) whole.many (subst (λ (x : Address). is_previous (length pages) x.page x.at ≡ true) (sym e) allowed)

  -- the address of the last record is allowed in a log that isn't being purged
  pub last_allowed : l.state ≢ purging → IfSome told (λ ps. a ≡ last_field ps log) → is_previous count a.page a.at ≡ true
  last_allowed state read =
      let read' : a ≡ last_field pages log = subst (λ (o : Option Pages). IfSome o (λ ps. a ≡ last_field ps log)) is read in
      allowed_by (newest (records_of l)) (read' ∙ ap (last_field pages) (sym same) ∙ last_of_state l.state (last_field pages l.page) (records_of l) state stands.last) (newest_allowed pages (records_of l) stands.chain)

  -- so is that of the next record to purge in a log that is committed
  pub next_allowed : l.state ≢ active → IfSome told (λ ps. a ≡ next_field ps log) → HasNext pages l.next → is_previous count a.page a.at ≡ true
  next_allowed state read there =
      let read' : a ≡ next_field pages log = subst (λ (o : Option Pages). IfSome o (λ ps. a ≡ next_field ps log)) is read in
      allowed_by (or_null l.next) (read' ∙ ap (next_field pages) (sym same) ∙ next_of_state l.state (next_field pages l.page) l.next state stands.next) (by l.next there)
    where
      by : (o : Option Address) → HasNext pages o → is_previous (length pages) (or_null o).page (or_null o).at ≡ true
      by None t = refl
      by (Some b) t = either ((b.page == null_page) && (b.at == 0)) (is_place (length pages) b.page b.at) (place_of_record pages b t.0 t.1 t.2)

-- ---- what a test denies

-- a test can't hold and fail
pub not_both : {X : Type 0} (b : Bool) → b ≡ true → b ≡ false → X
not_both b yes' no' = absurd (let e : true ≡ false = sym yes' ∙ no' in cc)

-- ---- the newest record

-- before the purge, the newest record stands at the address of the log's last record
pub newest_stands : (pages : Pages) (l : Log) (e : Entry) (older : List Entry) → IsLog pages l → l.state ≢ purging → records_of l ≡ e ∷ older → (last_field pages l.page ≡ e.at) × IsRecordAt pages e.at e.undo (newest older)
newest_stands pages l e older log state is =
    let chain : AreChained pages (e ∷ older) = subst (AreChained pages) is log.chain in
    (last_of_state l.state (last_field pages l.page) (records_of l) state log.last ∙ ap newest is, chain.0)

-- so the address read for the last record is a record's place, where the log has a record
pub newest_is_place : (told : Option Pages) (count : ℕ) (pages : Pages) (l : Log) (log : ℕ) (a : Address) (e : Entry) (older : List Entry) → AreWhole pages count → told ≡ Some pages → l.page ≡ log → IsLog pages l → l.state ≢ purging
    → records_of l ≡ e ∷ older → IfSome told (λ ps. a ≡ last_field ps log) → is_place count a.page a.at ≡ true
newest_is_place told count pages l log a e older whole is same stands state records read =
    let n = newest_stands pages l e older stands state records in
    let read' : a ≡ last_field pages log = subst (λ (o : Option Pages). IfSome o (λ ps. a ≡ last_field ps log)) is read in
    let ea : a ≡ e.at = read' ∙ ap (last_field pages) (sym same) ∙ n.0 in
    subst (λ (k : ℕ). is_place k a.page a.at ≡ true) whole.many (subst (λ (x : Address). is_place (length pages) x.page x.at ≡ true) (sym ea) (place_of_record pages e.at e.undo (newest older) n.1))
