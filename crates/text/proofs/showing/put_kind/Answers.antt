-- `text::showing::put_kind` meets its contract: each arm's text is its kind's word and a space. Assumes nothing.
use Prim.Native.Nat.{ℕ}
use native.Mathlib.Omega.{arith}
use mathlib.Core.Path.{ap, sym}
use mathlib.Core.List.{List}
use Rattle.pages.specs.Text.{field}
use Rattle.pages.proofs.Puts.{put_as}
use Rattle.text.specs.Shown.{kind_word}
use Rattle.text.proofs.Pages.{word_none}
use Rattle.text.proofs.showing.put_kind.Goals as goal

pub returns-in-1 : goal.returns-in-1
unfolding kind_word
returns-in-1 c = put_as (sym (ap (λ (k : ℕ). field (kind_word k) 32) c.in-1.is)) c.put.ensures

pub returns-in-2 : goal.returns-in-2
unfolding kind_word
returns-in-2 c = put_as (sym (ap (λ (k : ℕ). field (kind_word k) 32) c.in-2.is)) c.put-in-2.ensures

pub returns-in-3 : goal.returns-in-3
unfolding kind_word
returns-in-3 c = put_as (sym (ap (λ (k : ℕ). field (kind_word k) 32) c.in-3.is)) c.put-in-3.ensures

pub returns-in-4 : goal.returns-in-4
unfolding kind_word
returns-in-4 c = put_as (sym (ap (λ (k : ℕ). field (kind_word k) 32) c.in-4.is)) c.put-in-4.ensures

pub returns-in-6 : goal.returns-in-6
unfolding kind_word
returns-in-6 c = put_as (sym (ap (λ (k : ℕ). field (kind_word k) 32) c.in-6.is)) c.put-in-6.ensures

pub returns-in_default : goal.returns-in_default
returns-in_default c =
    put_as (sym (ap (λ (f : List ℕ). field f 32) (word_none c.args.kind (omega arith) (omega arith) (omega arith) (omega arith) (omega arith)))) c.put-in_default.ensures
