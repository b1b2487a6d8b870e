-- The system page of a new store.
--     system_fields count      its fields, for a store of so many pages
--     IsSystemPage count page      a page has these fields, and each other byte is 0
--     MakesSystem old new      page 0 became such a page, and what that means
use Rattle.std.specs.Prelude.{◌≡◌, ℕ, ◌-◌, ◌<◌, List, [], ◌∷◌, ◌++◌, length, map}
use Rattle.page_model.specs.Pages.{Pages, page_at, byte, Address, null_page, page_bytes}
use Rattle.page_model.specs.Spans.{span, IsOffAll, SameOutside}
use Rattle.page_model.specs.Lists.{IsList}
use Rattle.page_model.specs.Tables.{Field, field_at, field_span, HasFields, header_fields, base_fields}
use Rattle.page_space.specs.declared.layout.TheConstants.{SYSTEM_TYPE, NEXT_TRX_ID, COMMITS, PURGED_COMMITS, FREE_PAGES, ROW_PAGES, ACTIVE_LOGS, COMMITTED_LOGS, MAP}
use Rattle.page_space.specs.Map.{IsMap, IsUsed, max_pages}

-- the counters and the count of free pages
abbrev pub counter_fields : ℕ → List Field
counter_fields count = field_at NEXT_TRX_ID 8 1 ∷ field_at COMMITS 8 0 ∷ field_at PURGED_COMMITS 8 0
    ∷ field_at FREE_PAGES 4 (count - 1) ∷ []

-- the header, the counters, three lists without nodes, and the map's first byte, in which page 0 is
-- used
abbrev pub system_fields : ℕ → List Field
system_fields count =
    header_fields 0 null_page null_page SYSTEM_TYPE
    ++ (counter_fields count ++ (base_fields ROW_PAGES
    ++ (base_fields ACTIVE_LOGS ++ (base_fields COMMITTED_LOGS ++ field_at MAP 1 1 ∷ []))))

pub record IsSystemPage (count : ℕ) (page : List ℕ) : Type 0 where
  pub fields : HasFields (page ∷ []) 0 (system_fields count)
  pub rest : (k : ℕ) → IsOffAll (map (field_span 0) (system_fields count)) 0 k
      → byte (page ∷ []) 0 k ≡ 0

abbrev pub in_system : ℕ → Address
in_system at = record { page = 0; at = at }

pub record MakesSystem (old new : Pages) : Type 0 where
  pub page : IsSystemPage (length old) (page_at new 0)
  pub outside : SameOutside (span 0 0 page_bytes ∷ []) old new
  pub fields : HasFields new 0 (system_fields (length old))
  pub map : IsMap new
  -- page 0 is used, and no other
  pub used : IsUsed new 0
  pub alone : (k : ℕ) → k < max_pages → IsUsed new k → k ≡ 0
  pub row_pages : IsList new (in_system ROW_PAGES) []
  pub active_logs : IsList new (in_system ACTIVE_LOGS) []
  pub committed_logs : IsList new (in_system COMMITTED_LOGS) []
