-- Which session holds a document, for which document a session asks, and the circles of it.
--     holder, asked      the session that holds a document; the document that a session asks for
--     waits_on      the session that one waits for: the other one that holds the document that it
--         asks for
--     circle      from the holder of a document back to the session that asks for it
use Rattle.std.specs.Prelude.{ℕ, zero, suc, ◌==◌, List, [], ◌∷◌, length, Option, Some, None, option_map, option_and_then, nat_eq, slice_index_or, if◌then◌else◌}
use Rattle.std.specs.Map.{lookup}
use Rattle.engine_base.specs.declared.ids.DocId.{DocId}
use Rattle.engine_base.specs.declared.ids.SessionNo.{SessionNo}

-- the documents that are held, each with its session; the document that each session asks for; how
-- many documents there is room for
pub record Table : Type 0 where
  pub held : List (ℕ × SessionNo)
  pub asks : List (Option DocId)
  pub room : ℕ

abbrev pub holder : Table → ℕ → Option ℕ
holder t d = option_map (λ (h : SessionNo). h.0) (lookup (nat_eq d) t.held)

abbrev pub held_count : Table → ℕ
held_count t = length t.held

abbrev pub asked : Table → ℕ → Option ℕ
asked t s = option_map (λ (d : DocId). d.0) (slice_index_or t.asks s None)

abbrev pub other_than : ℕ → Option ℕ → Option ℕ
other_than s None = None
other_than s (Some h) = if h == s then None else Some h

-- the holder, where it is another session
abbrev pub other_holder : Table → ℕ → ℕ → Option ℕ
other_holder t s d = other_than s (holder t d)

abbrev pub waits_on : Table → ℕ → Option ℕ
waits_on t s = option_and_then (λ d. other_holder t s d) (asked t s)

-- h, the one that h waits for, and so on, until s; None where s isn't met among the first n
abbrev pub chain : (ℕ → Option ℕ) → (n s h : ℕ) → Option (List ℕ)
chain next zero s h = None
chain next (suc n) s h =
    if h == s then Some (s ∷ [])
    else option_map (λ l. h ∷ l) (option_and_then (λ g. chain next n s g) (next h))

-- there are no more sessions, so that a chain which comes back has no more
unfoldable pub most_sessions : ℕ
most_sessions = 64

-- from the session h, on which s would wait, back to s
abbrev pub circle : Table → (s h : ℕ) → Option (List ℕ)
circle t s h = chain (waits_on t) most_sessions s h
