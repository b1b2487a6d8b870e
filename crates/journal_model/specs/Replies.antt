-- What a statement is answered, where memory and pages suffice and no lock stands against it.
--     reply_to      the answer to a change
--     doc_reply, size_reply      the answer to a read, by the document that it shows
use Rattle.std.specs.Prelude.{ℕ, ◌-◌, Bool, List, length, Option, Some, None, nat_lt, if◌then◌else◌}
use Rattle.tree_model.specs.Tree.{Tree, depth}
use Rattle.tree_model.specs.Text.{max_depth, tree_text}
use Rattle.tree_model.specs.Edit.{Edit, edited}
use Rattle.binary_model.specs.Stands.{used}
use Rattle.binary_model.specs.Canonical.{canonical, max_document_bytes}
use Rattle.binary_model.specs.Change as bytes
use Rattle.binary_model.specs.Change.{differing}
use Rattle.journal_model.specs.Documents.{Docs, look, Call, Insert, Change, Delete, Kept, change_of}
use Rattle.journal_model.specs.Journal.{Reply, missing, exists, same, deep, large, full, part as parted, done, doc, sized, absent}

-- ---- the answer to a change

abbrev pub is_too_deep : Tree → Bool
is_too_deep t = nat_lt max_depth (depth t)

abbrev pub is_too_large : List ℕ → Bool
is_too_large bytes = nat_lt max_document_bytes (length bytes)

-- a whole new encoding
abbrev pub full_reply : List ℕ → Reply
full_reply bytes = if is_too_large bytes then large else full

abbrev pub insert_reply : Tree → Option Kept → Reply
insert_reply t (Some old) = exists
insert_reply t None = if is_too_deep t then deep else full_reply (canonical t)

-- by the stored change, and the tree behind it
abbrev pub changed_reply : Tree → bytes.Change → Reply
changed_reply new bytes.Same = same
changed_reply new (bytes.Parts rs) = if is_too_deep new then deep else parted (differing rs)
changed_reply new (bytes.Full encoding) = if is_too_deep new then deep else full_reply encoding

abbrev pub edit_reply : Edit → Option Kept → Reply
edit_reply e None = missing
edit_reply e (Some old) = changed_reply (edited e old.0) (change_of e old)

abbrev pub delete_reply : Option Kept → Reply
delete_reply None = missing
delete_reply (Some old) = done

abbrev pub reply_to : Call → Docs Kept → Reply
reply_to (Insert d t) now = insert_reply t (look now d)
reply_to (Change d e) now = edit_reply e (look now d)
reply_to (Delete d) now = delete_reply (look now d)

-- ---- the answer to a read

abbrev pub doc_reply : Option Kept → Reply
doc_reply None = absent
doc_reply (Some k) = doc (tree_text k.0)

-- the stored length with the type byte, and what of it isn't used
abbrev pub size_reply : Option Kept → Reply
size_reply None = absent
size_reply (Some k) = sized (length k.1) (length k.1 - used k.1 k.0)
