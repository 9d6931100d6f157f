-- A row as it is handed around by value: its three counts and the place of its first literal; the rule that it is, and where the next row stands.
use Rattle.std.specs.Prelude.{List, ℕ, ◌+◌, ◌%◌, ◌^◌}
use Rattle.lpod.specs.Rule.{Rule}
use Rattle.page.specs.Fields.{head_count, pos_count, neg_count}
use Rattle.page.specs.Program.{literals}
use Rattle.page.specs.declared.rows.Row.{Row}

-- row n, whose first literal stands at place i
unfoldable pub row_from : List ℕ → ℕ → ℕ → Row
row_from page n i = record { head = head_count page n; pos = pos_count page n; neg = neg_count page n; place = i }

-- the rule: as many literals as each count says, head first, then the positive, then the negative body
unfoldable pub rule_of : List ℕ → Row → Rule
rule_of page row = record {
  head = literals page row.place row.head;
  pos = literals page (row.place + row.head) row.pos;
  neg = literals page (row.place + row.head + row.pos) row.neg;
}

-- the place after the last literal, in 32 bits
unfoldable pub place_after : Row → ℕ
place_after row = (row.place + row.head + row.pos + row.neg) % 2 ^ 32
