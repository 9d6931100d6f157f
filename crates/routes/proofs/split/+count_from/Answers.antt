-- `count_from` calls itself for the rows before the last. Without rows it tests the choice; else it adds up the counts with each option of the last
-- row. The total is no more than the number of split programs, so that it fits. Assumes nothing.
use Rattle.std.proofs.Common.{◌≡◌, length, refl, ap, ◌∙◌, arith}
use Rattle.routes.specs.Choice.{all_chosen, program_of}
use Rattle.routes.proofs.SplitSums.{sum_below, below_more}
use Rattle.routes.proofs.SplitChoices.{count_end, with_row, rows_counted, rows_room, rows_fewer, row_counted, popped}
use Rattle.routes.proofs.split.+count_from.Goals as goal

pub returns-in_default-clause-count : goal.returns-in_default-clause-count
unfolding program_of
returns-in_default-clause-count t c =
    let a = c.args in
    let none : length a.rows.now ≡ 0 = grind arith in
    count_end a.flags a.set a.rows.now (all_chosen a.choice.now.items) none c.chosen_answer.result (c.chosen_answer.ensures ∙ rw c.deref.ensures.0) _ c.from.ensures

pub loop-option-init : goal.loop-option-init
unfolding sum_below
loop-option-init t c = record { kept = refl; counted = refl }

pub count_from-total-requires : goal.count_from-total-requires
count_from-total-requires t c =
    let rows = c.in-Some.ensures.cases in
    let p = c.push.ensures.len in
    let k = ap length c.loop-option.invariant.kept in
    (omega arith, (omega arith, omega (arith, rows_fewer _ _ _ rows.0)))

pub overflow_add-total : goal.overflow_add-total
overflow_add-total t c =
    let a = c.args in
    let h = c.loop-option in
    let rows = c.in-Some.ensures.cases in
    let room = rows_room a.flags a.set _ _ _ rows.0 a.choice.now.items h.option (omega (arith, c.option_count-option-end.ensures)) in
    let next = row_counted a.flags a.set _ _ _ rows.0 a.choice.now.items h.option _ (c.push.ensures.items ∙ rw h.invariant.kept) _ c.count_from-total.ensures.count in
    omega (arith, room, next, h.invariant.counted)

pub loop-option-preserved : goal.loop-option-preserved
loop-option-preserved t c =
    let a = c.args in
    let h = c.loop-option in
    let rows = c.in-Some.ensures.cases in
    let next = row_counted a.flags a.set _ _ _ rows.0 a.choice.now.items h.option _ (c.push.ensures.items ∙ rw h.invariant.kept) _ c.count_from-total.ensures.count in
    record {
      kept = popped _ _ _ _ (c.count_from-total.ensures.kept ∙ c.push.ensures.items) c.pop.ensures.rest ∙ h.invariant.kept;
      counted = omega (arith, below_more h.option (with_row a.flags a.set _ _ _ rows.0 a.choice.now.items), next, h.invariant.counted);
    }

pub returns-clause-count : goal.returns-clause-count
returns-clause-count t c =
    let a = c.args in
    let h = c.loop-option in
    let rows = c.in-Some.ensures.cases in
    rows_counted a.flags a.set _ _ _ rows.0 a.choice.now.items h.option (omega (arith, c.option_count-option-end.ensures)) _ h.invariant.counted
