-- The ways out of the writer: refused by the content, refused for want of room, and the page made. And the page that it makes in its own memory is the
-- first part of that array. Assumes nothing.
use Rattle.std.specs.Prelude.{Result, Ok, Err, IsErrAnd}
use mathlib.Core.Path.{◌≡◌, refl, sym, ap, ◌∙◌}
use mathlib.Core.Bool.{false}
use mathlib.Core.List.{List, ◌++◌, append-nil}
use Prim.Native.Nat.{ℕ, ◌≤◌, ◌<◌}
use native.Mathlib.Omega.{arith}
use lib.ListN.{length, take, length-append, drop_of_length-le}
use lib.Seq.{take_at}
use borrow.Author.Tests.{ne_eqb, lt-ltb, le-ltb}
use Rattle.page.specs.Refusals.{first_that, page_no}
use Rattle.lanes.specs.Entries.{over, stored}
use Rattle.page.specs.Answers.{number, by_number}
use Rattle.page.specs.declared.refusal.Refusal.{Refusal}
use Rattle.page.specs.declared.refusal.Refusal.TheVariants.{NoRoom}
use Rattle.page.proofs.Refusing.{above_zero, first_stands, then_rest, refused_before}
use Rattle.writer.specs.Content.{Content, encode}
use Rattle.writer.specs.Writes.{sizes_out, content_refusals, content_no, room_refusals, write_refusals, write_no, WriteSays}
use Rattle.writer.proofs.Encoding.{content_numbered, same_number}

module _ (c : Content) (out : List ℕ) where
  pub write_refused : (r : Result ℕ Refusal) (e : Refusal) → IsErrAnd r (λ y. y ≡ e) → number e ≡ content_no c → WriteSays c out r out
  unfolding content_no write_no write_refusals stored
  write_refused r e i p =
      let n = first_stands (content_refusals c) (room_refusals c (length out)) (content_numbered c) e p in
      let z : number e ≡ 0 → ⊥ = λ q. omega (arith, above_zero e, q) in
      (refused_before 0 _ _ r e i n, rw (← n, ne_eqb (number e) 0 z))

  module _ (z : 0 ≡ content_no c) where
    by_room : write_no c (length out) ≡ first_that (room_refusals c (length out))
    unfolding content_no write_no write_refusals
    by_room = sym (then_rest (content_refusals c) (room_refusals c (length out)) (content_numbered c) _ z refl)

    pub write_short : length out < length (encode c) → WriteSays c out (Err NoRoom) out
    unfolding first_that by_number stored
    write_short h = let t = lt-ltb (length out) (length (encode c)) h in (rw (by_room, t), rw (by_room, t))

    pub write_made : length (encode c) ≤ length out → (n : ℕ) (after : List ℕ) → n ≡ length (encode c) → after ≡ over (encode c) out
        → WriteSays c out (Ok n) after
    unfolding first_that by_number stored
    write_made h n after en ea = let t = le-ltb (length out) (length (encode c)) h in (rw (by_room, t, en), ea ∙ rw (by_room, t))

-- a slice that is filled to its end, as the first part of an array
module _ (n : ℕ) (made filled old rest : List ℕ) (e : filled ≡ over made old) (en : n ≡ length made) (eo : n ≡ length old) where
  filled_is : filled ≡ made
  unfolding over
  filled_is = e ∙ rw (drop_of_length-le old {i = length made} (omega arith)) (append-nil made)

  pub made_room : n ≤ length (filled ++ rest)
  made_room = omega (arith, length-append filled rest, ap length filled_is)

  pub made_lent : take n (filled ++ rest) ≡ made
  made_lent = take_at filled rest n (ap length filled_is ∙ sym en) ∙ filled_is

-- so its number is the content's
pub made_number : (c : Content) (end k : ℕ) (filled old rest : List ℕ) → sizes_out c ≡ false → filled ≡ over (encode c) old → end ≡ length (encode c)
    → end ≡ length old → k ≡ page_no (take end (filled ++ rest)) → k ≡ content_no c
made_number c end k filled old rest s e en eo ek = ek ∙ ap page_no (made_lent end (encode c) filled old rest e en eo) ∙ same_number c s
