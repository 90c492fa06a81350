-- The table is that of the inline entries so far.
use Rattle.std.proofs.Common.{◌≡◌, true, false, cond, List, [], ◌∷◌, ◌++◌, reverse, take, filter, ap, sym, ◌∙◌, if◌then◌else◌}
use Rattle.std.proofs.lemmas.List.{reverse-append, append-nil}
use Rattle.std.proofs.lemmas.List.Elements.{filter-append}
use Rattle.o5_codec.specs.Entry.{EntryStrings}
use Rattle.o5_codec.specs.Table.{table_limit, is_short, table_with, table_of}
use Rattle.o5_codec.proofs.Newest.{cons_twice}

-- One more inline entry is stored in the table of those before.
pub table_more : (entries : List EntryStrings) (e : EntryStrings) → table_of (entries ++ e ∷ []) ≡ table_with e (table_of entries)
table_more entries e =
    let short : List EntryStrings = filter is_short entries in
    ap (λ es. take table_limit (reverse es)) (filter-append is_short entries (e ∷ [])) ∙
    elim (is_short e) as (λ t. take table_limit (reverse (short ++ cond t (e ∷ []) []))
    ≡ (if t then take table_limit (e ∷ table_of entries) else table_of entries)) [
      | true ↦ ap (take table_limit) (reverse-append short (e ∷ [])) ∙ sym (cons_twice table_limit e (reverse short))
      | false ↦ ap (λ es. take table_limit (reverse es)) (append-nil short)
    ]
