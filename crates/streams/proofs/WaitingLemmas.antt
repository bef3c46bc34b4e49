-- The bytes that are written and those that wait in a buffer, if bytes are appended, and if the output fails.
use Rattle.std.proofs.Common.{◌≡◌, ℕ, ◌+◌, List, [], ◌++◌, Option, length, take, sym, ap, ◌∙◌, subst, append-nil}
use Rattle.std.proofs.Common.{append_assoc, length-append, arith}
use Rattle.std.specs.Io.KnownBytes.{Appends}
use Rattle.std.proofs.KnownBytes.{Appends-nil, Appends-trans}
use Rattle.std.proofs.Math.Seq.{take-append-add}
use Rattle.std.proofs.lemmas.List.{take-append-le}
use Rattle.streams.specs.Waiting.{LeavesAnswer, Puts, WritesFront}
use Rattle.streams.specs.declared.fault.AnswerFault.{AnswerFault}
use Rattle.streams.specs.declared.fault.AnswerFault.TheVariants.{Memory, Write}

-- if only the first bytes of `bytes` were written, then also only the first bytes of `bytes ++ more`
pub WritesFront-more : (before after : Option (List ℕ)) (bytes more : List ℕ) → WritesFront before after bytes
    → WritesFront before after (bytes ++ more)
WritesFront-more before after bytes more (place, less, wrote) = (
  place,
  omega (arith, length-append bytes more),
  subst (Appends before after) (sym (take-append-le place bytes more (omega arith))) wrote,
)

-- if `done` was written, and then only the first bytes of `bytes`, then only the first bytes of `done ++ bytes` were
-- written
pub WritesFront-after : (before mid after : Option (List ℕ)) (done bytes : List ℕ) → Appends before mid done
    → WritesFront mid after bytes
    → WritesFront before after (done ++ bytes)
WritesFront-after before mid after done bytes wrote (place, less, front) = (
  length done + place,
  omega (arith, length-append done bytes),
  subst (Appends before after) (sym (take-append-add done bytes place))
      (Appends-trans before mid after done (take place bytes) wrote front),
)

-- appending no bytes to a buffer changes nothing
pub Puts-nothing : (written : Option (List ℕ)) (waited : List ℕ) → Puts written written waited [] waited
Puts-nothing written waited = record { front = []; written = Appends-nil written; whole = sym (append-nil waited) }

-- if nothing is written, the buffer has the bytes that waited, followed by the new ones
pub Puts-waiting : (written : Option (List ℕ)) (waited bytes waits : List ℕ) → waits ≡ waited ++ bytes
    → Puts written written waited bytes waits
Puts-waiting written waited bytes waits is = record { front = []; written = Appends-nil written; whole = is }

-- if the bytes that waited are written, the buffer has only the new bytes
pub Puts-following : (before after : Option (List ℕ)) (waited bytes waits : List ℕ) → Appends before after waited
    → waits ≡ bytes
    → Puts before after waited bytes waits
Puts-following before after waited bytes waits wrote is = record {
  front = waited;
  written = wrote;
  whole = ap (λ (rest : List ℕ). waited ++ rest) is;
}

-- if the bytes that waited and then the new ones are written, the buffer is empty
pub Puts-through : (before mid after : Option (List ℕ)) (waited bytes waits : List ℕ) → Appends before mid waited
    → Appends mid after bytes
    → waits ≡ [] → Puts before after waited bytes waits
Puts-through before mid after waited bytes waits wrote more none = record {
  front = waited ++ bytes;
  written = Appends-trans before mid after waited bytes wrote more;
  whole = ap (λ (rest : List ℕ). (waited ++ bytes) ++ rest) none ∙ append-nil (waited ++ bytes);
}

module _ (before mid after : Option (List ℕ)) (waited bytes waits : List ℕ) (put : Puts before mid waited bytes waits)
  where
    -- the bytes written, those that wait and `more` together are those that waited, the new bytes and `more`
    following : (more : List ℕ) → put.front ++ (waits ++ more) ≡ waited ++ (bytes ++ more)
    following more =
        sym (append_assoc put.front waits more)
        ∙ ap (λ (all : List ℕ). all ++ more) put.whole
        ∙ append_assoc waited bytes more

    -- putting `bytes` and then `more` puts both together
    pub Puts-then : (more left : List ℕ) → Puts mid after waits more left
        → Puts before after waited (bytes ++ more) left
    Puts-then more left next = record {
      front = put.front ++ next.front;
      written = Appends-trans before mid after put.front next.front put.written next.written;
      whole = append_assoc put.front next.front left ∙ ap (λ (all : List ℕ). put.front ++ all) next.whole
          ∙ following more;
    }

    -- if the output fails while `more` is put, a front of what waited, `bytes` and `more` was written
    pub Puts-cut : (more : List ℕ) → WritesFront mid after (waits ++ more)
        → WritesFront before after (waited ++ (bytes ++ more))
    Puts-cut more cut =
        subst (WritesFront before after) (following more)
        (WritesFront-after before mid after put.front (waits ++ more) put.written cut)

    -- if the output fails while `more` is put, a front of what waited, `bytes`, `more` and `rest` was written
    pub Puts-cut-more : (more rest : List ℕ) → WritesFront mid after (waits ++ more)
        → WritesFront before after (waited ++ ((bytes ++ more) ++ rest))
    Puts-cut-more more rest cut =
        subst (WritesFront before after) (append_assoc waited (bytes ++ more) rest)
        (WritesFront-more before after (waited ++ (bytes ++ more)) rest (Puts-cut more cut))

    -- if the bytes that wait are written, what waited and the new bytes are written
    pub Puts-written : Appends mid after waits → Appends before after (waited ++ bytes)
    Puts-written wrote =
        subst (Appends before after) put.whole (Appends-trans before mid after put.front waits put.written wrote)

    -- if the output fails while the bytes that wait are written, a front of what waited and the new bytes was written
    pub Puts-lost : WritesFront mid after waits → WritesFront before after (waited ++ bytes)
    Puts-lost cut = subst (WritesFront before after) put.whole
        (WritesFront-after before mid after put.front waits put.written cut)

-- if `IsOne` implies `IsOther`, and after a fault the state is one that an answer with `IsOne` leaves, it also is one
-- that an answer with `IsOther` leaves
pub LeavesAnswer-weaker : (IsOne IsOther : List ℕ → Type 0) → ((text : List ℕ) → IsOne text → IsOther text)
    → (fault : AnswerFault)
    (before after : Option (List ℕ)) (waited waits : List ℕ) → LeavesAnswer IsOne fault before after waited waits
    → LeavesAnswer IsOther fault before after waited waits
LeavesAnswer-weaker IsOne IsOther is Memory before after waited waits left = left
LeavesAnswer-weaker IsOne IsOther is Write before after waited waits (text, one, front) = (text, is text one, front)
