-- The page of `why` without a claim, by the outcome and by the source. Assumes nothing.
use Rattle.records.specs.Refused.{refused_at}
use Rattle.outcomes.specs.Accepted.{Outcome, accepted_with}
use Prim.Native.Nat.{ℕ, ◌*◌, ◌≤◌, ◌<◌, ◌^◌}
use mathlib.Core.Path.{◌≡◌, refl, sym, ap, subst, ◌∙◌}
use mathlib.Core.Bool.{false≢true}
use mathlib.Core.List.{List, []}
use native.Mathlib.Omega.{arith}
use lib.ListN.{length, take, length-append}
use Rattle.lists.proofs.Bools.{Known, is_true, is_false, known}
use Rattle.records.specs.declared.Refusal.{Refusal}
use Rattle.outcomes.specs.Fresh.{fresh_call}
use Rattle.outcomes.specs.One.{refuse_if}
use Rattle.chain_format.specs.Step.{steps}
use Rattle.clash.specs.Clash.{reply_of, reply, shown, Written}
use Rattle.clash.specs.declared.Clash as call
use Rattle.pages.specs.Put.{Put}
use Rattle.pages.specs.Written.{written_at}
use Rattle.std.specs.Prelude.{Option}
use Rattle.pages.proofs.Puts.{chain}
use Rattle.text.specs.declared.Form.TheVariants.{Records}
use Rattle.text.specs.Text.{Entries}
use Rattle.text.specs.Either.{read_either}
use Rattle.sentences.specs.Unread.{unread_line}
use Rattle.sentences.specs.Refusals.{refused}
use Rattle.sentences.specs.Sources.{Breaks}
use Rattle.sentences.proofs.Tellings.{Paged, put-page, page-read, page-unread}
use Rattle.report.specs.Session.{counts_line}
use Rattle.report.proofs.Rooms.{counts-width}
use Rattle.chain_pages.specs.StepLine.{step_lines}
use Rattle.chain_pages.specs.ChainText.{Bytes}
use Rattle.chain_pages.proofs.Rooms.{steps-width}
use Rattle.chain_pages.specs.Clash.{clash_text, clash_page, Behind, Clash, Shown, StepsOf, OfBook}
use Rattle.chain_pages.proofs.Readings.{no_bytes, not-read, one-book}

-- ---- what the writer leaves, for a buffer of 16,400 steps

-- row 15 does not refuse
roomy : (s : List ℕ) (n : ℕ) → n ≡ 164000 → reply s n ≡ reply_of (fresh_call s [])
unfolding reply refuse_if
roomy s n is = rw is

pub clash-shown : {s c : List ℕ} {r : call.Clash} {c' : List ℕ} → Written s c r c' → length c ≡ 164000 → length c' ≡ 164000 → Shown s r.steps c'
clash-shown {s} {c} {r} {c'} w room left =
    record {
      room = left;
      few = go (known (shown r.reply));
      behind = record { passing = λ h. (w.steps-are (ap shown same ∙ h)).written-passes; none = λ h. rw (w.none (ap shown same ∙ h)) };
    }
  where
    same : r.reply ≡ reply_of (fresh_call s [])
    same = w.reply-is ∙ roomy s (length c) room

    go : Known (shown r.reply) → r.steps ≤ 16400
    go (is_true h) = (w.steps-are h).few
    go (is_false h) = omega (arith, w.none h)

pub steps-put : {s : List ℕ} {n : ℕ} {c' : List ℕ} → Shown s n c' → Bytes (take (10 * n) c') → length (take (10 * n) c') ≡ 10 * n → {page page' : List ℕ} {at end : ℕ}
    → Put page at (step_lines (take (10 * n) c') (steps (take (10 * n) c'))) page' end → StepsOf s page at page' end
steps-put {s} {n} {c'} w bytes e p = record { chain = take (10 * n) c'; bytes = bytes; few = omega (arith, e, w.few); behind = w.behind; put = p }

-- ---- by the outcome

module _ (source book : List ℕ) (o : Outcome) (comes : o ≡ fresh_call book []) {page page' : List ℕ} {end : ℕ} where
  pub counted : (n nodes shadows : ℕ) → o ≡ accepted_with n nodes shadows → n < 2 ^ 64 → nodes < 2 ^ 64 → shadows < 2 ^ 64
      → Put page 0 (counts_line n nodes shadows) page' end → OfBook source book page page' end
  unfolding clash_text reply_of
  counted n nodes shadows is hn hv hs p =
      let e : fresh_call book [] ≡ accepted_with n nodes shadows = sym comes ∙ is in
      record {
        chain = [];
        bytes = no_bytes;
        behind = record { passing = λ h. absurd (false≢true (rw e at h)); none = λ h. refl };
        put = rw e p;
        short = rw e (omega (arith, counts-width n nodes shadows hn hv hs));
      }

  pub refused-with : {mid : List ℕ} {at : ℕ} (r : Refusal) (i : ℕ) → o ≡ refused_at r i → Put page 0 (refused r i source []) mid at → length (refused r i source []) ≤ 142
      → StepsOf book mid at page' end → OfBook source book page page' end
  unfolding clash_text
  refused-with r i is p h st =
      let e : fresh_call book [] ≡ refused_at r i = sym comes ∙ is in
      record {
        chain = st.chain;
        bytes = st.bytes;
        behind = st.behind;
        put = rw e (chain p st.put);
        short =
            rw e (omega (
              arith,
              length-append (refused r i source []) (step_lines st.chain (steps st.chain)),
              steps-width st.chain st.bytes (steps st.chain) (omega (arith, st.few)),
              st.few,
            ));
      }

-- ---- a source that was read, and one that cannot be

abbrev of : List ℕ → List ℕ → List ℕ → List ℕ
of source c book = clash_text source (fresh_call book []) c

module _ (source : List ℕ) {page page' : List ℕ} (x : Option ℕ) where
  pub clash-unread : (l number : ℕ) → Breaks (read_either Records source) l number → Paged 95 page (unread_line 0 l number) page' x → Clash source page page' x
  unfolding clash_page
  clash-unread l number b t =
      let p : Paged 852942 page (clash_page source []) page' x = page-unread 852942 page page' x 0 Records source (of source []) (omega arith) b t in
      record { chain = []; bytes = no_bytes; behind = λ book e. absurd (not-read _ l number book b e); page-is = p.0; short = p.1 }

  pub clash_read : (book : List ℕ) (end : ℕ) → x ≡ written_at (length page') end → read_either Records source ≡ Entries book → OfBook source book page page' end
      → Clash source page page' x
  unfolding clash_page
  clash_read book end finished e o =
      let told : Paged 852942 page (of source o.chain book) page' x = put-page (o.put, o.short) finished in
      let p : Paged 852942 page (clash_page source o.chain) page' x = page-read 852942 page page' x 0 Records source (of source o.chain) e told in
      record {
        chain = o.chain;
        bytes = o.bytes;
        behind = λ b f. subst (λ (y : List ℕ). Behind y o.chain) (one-book _ book b e f) o.behind;
        page-is = p.0;
        short = p.1;
      }
