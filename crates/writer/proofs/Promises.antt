-- What a user of the writer may rely on, for every content, slice and page. Each theorem starts from `WriteSays`, which is the call's own contract;
-- those about pages cite the two halves of the law of the format (`proofs/Encoding.antt`). Assumes nothing.
use Rattle.std.specs.Prelude.{Result}
use mathlib.Core.Path.{◌≡◌, refl, sym, ap, ◌∙◌}
use mathlib.Core.List.{List}
use Prim.Native.Nat.{ℕ, ◌≤◌}
use native.Mathlib.Omega.{arith}
use lib.ListN.{length, take, drop}
use borrow.Author.Tests.{le-ltb}
use Rattle.lpod.specs.Lists.{every}
use Rattle.page.specs.Program.{program}
use Rattle.page.specs.Refusals.{first_that, numbered, page_no}
use Rattle.page.specs.Answers.{no, answered, by_number}
use Rattle.page.specs.declared.refusal.Refusal.{Refusal}
use Rattle.page.proofs.Refusals.{given_append}
use Rattle.page.proofs.Refusing.{then_rest}
use Rattle.page.proofs.RowSteps.{Bytes}
use Rattle.lanes.specs.Entries.{over, stored}
use Rattle.engine.proofs.Given.{Given, given, numbered_append, entries_first, entries_later, where_refused, where_accepted, number_said, refused_blank}
use Rattle.writer.specs.Content.{Content, encode, content_of}
use Rattle.writer.specs.Meaning.{program_given}
use Rattle.writer.specs.Writes.{content_refusals, content_no, room_refusals, write_refusals, write_no, Written, WriteSays}
use Rattle.writer.proofs.Encoding.{content_numbered, valid_sizes, page_most, Makes, made_accepted, accepted_made}
use Rattle.writer.proofs.Meaning.{means_own}

module _ (c : Content) (out : List ℕ) (r : Result ℕ Refusal) (after : List ℕ) (says : WriteSays c out r after) where
  number : no r ≡ write_no c (length out)
  number = number_said 0 _ (write_no c (length out)) r says.0

  -- ---- each refusal exactly when it should be given, the first in order; and a refused call stores nothing
  pub refused_first : Given (write_refusals c (length out)) (no r)
  unfolding write_no write_refusals numbered every
  refused_first = given (write_refusals c (length out)) (no r) (numbered_append (content_refusals c) (room_refusals c (length out)) (content_numbered c) tt) number

  pub refused_nothing : (no r ≡ 0 → ⊥) → ((answered 0 r).value ≡ 0) × (after ≡ out)
  unfolding stored
  refused_nothing z = (
    refused_blank 0 r z,
    says.1 ∙ where_refused (write_no c (length out)) (over (encode c) out) out (λ y. z (number ∙ y)),
  )

  -- ---- an accepted call
  module _ (z : no r ≡ 0) where
    valid : content_no c ≡ 0
    unfolding content_no write_no write_refusals
    valid = (given_append (content_refusals c) (room_refusals c (length out)) (content_numbered c) (sym number ∙ z)).0

    stores : after ≡ over (encode c) out
    unfolding stored
    stores = says.1 ∙ where_accepted (write_no c (length out)) (over (encode c) out) out (sym number ∙ z)

    -- the answered length is the page's, at most 866
    pub length_is : (answered 0 r).value ≡ length (encode c)
    unfolding by_number
    length_is = ap (λ (x : Written). x.value) says.0 ∙ where_accepted (write_no c (length out)) (length (encode c)) 0 (sym number ∙ z)

    pub length_most : (answered 0 r).value ≤ 866
    length_most = omega (arith, length_is, page_most c (valid_sizes c valid))

    -- so many bytes are the page that the content makes
    pub page_made : take ((answered 0 r).value) after ≡ encode c
    page_made = ap (λ (n : ℕ). take n after) length_is ∙ entries_first (encode c) out after stores

    makes : Makes c (take ((answered 0 r).value) after)
    makes = record { valid = valid; bytes = sym page_made }

    -- every page the writer makes is accepted
    pub writes_accepted : page_no (take ((answered 0 r).value) after) ≡ 0
    writes_accepted = (made_accepted _ c makes).0

    -- it reads back as what was given
    pub reads_back : content_of (take ((answered 0 r).value) after) ≡ c
    reads_back = (made_accepted _ c makes).1

    -- and means what was given: the engine reads these rules and pairs from it
    pub means_given : (flags : ℕ) → program (take ((answered 0 r).value) after) flags ≡ program_given c flags
    means_given flags = means_own _ writes_accepted flags ∙ ap (λ (x : Content). program_given x flags) reads_back

    -- bytes after the page keep their content
    pub rest_kept : drop ((answered 0 r).value) after ≡ drop ((answered 0 r).value) out
    rest_kept = ap (λ (n : ℕ). drop n after) length_is ∙ entries_later (encode c) out after stores ∙ ap (λ (n : ℕ). drop n out) (sym length_is)

-- ---- a valid content is written wherever there is room
pub written_where : (c : Content) (out : List ℕ) (r : Result ℕ Refusal) (after : List ℕ) → WriteSays c out r after → content_no c ≡ 0 → length (encode c) ≤ length out → no r ≡ 0
unfolding content_no write_no write_refusals first_that
written_where c out r after says v l =
    number c out r after says ∙ sym (then_rest (content_refusals c) (room_refusals c (length out)) (content_numbered c) _ (sym v) refl)
    ∙ rw (le-ltb (length out) (length (encode c)) l)

-- ---- every accepted page, read and written again, has the same bytes
module _ (page : List ℕ) (bytes : Bytes page) (h : page_no page ≡ 0) (out : List ℕ) (r : Result ℕ Refusal) (after : List ℕ) (says : WriteSays (content_of page) out r after) where
  pub written_again : length page ≤ length out → (no r ≡ 0) × ((answered 0 r).value ≡ length page) × (take ((answered 0 r).value) after ≡ page)
  written_again l =
      let m = accepted_made page bytes h in
      let z = written_where (content_of page) out r after says m.valid (rw m.bytes l) in
      (z, length_is (content_of page) out r after says z ∙ ap length m.bytes, page_made (content_of page) out r after says z ∙ m.bytes)
