-- The meanings of ledgers and agent tables are sound. This stands here, since a ghost member takes no lemma from proofs/.
use Rattle.std.specs.Prelude.{◌≡◌, ℕ, ◌<◌, List, map, length, vec_items, slice_index}
use Rattle.std.proofs.Common.{◌∙◌, ap, arith}
use Rattle.std.proofs.lemmas.List.FromFn.{length-range_with_len, get_or-range_with_len}
use Rattle.std.proofs.lemmas.List.{length-map, get_or-map}
use Rattle.std.proofs.lemmas.Bool.{cond_both, ltb-true}
use Rattle.money.specs.declared.ledger.Ledger.{Ledger}
use Rattle.money.specs.declared.agents.AgentTable.{AgentTable}
use Rattle.money.specs.Funds.{Funds, Sound, account, known}
use Rattle.money.specs.Ledger.{ledger_funds}
use Rattle.money.specs.Agents.{agent, table_funds}

pub ledger_sound : (l : Ledger) → Sound (ledger_funds l)
ledger_sound l =
    let bs = vec_items l.balances in
    let n = length-range_with_len 0 (length bs) in
    record {
      some = omega (arith, l.balances.ok.0, l.some);
      few = omega (arith, l.balances.ok.0, l.few);
      within = λ p h. omega (arith, get_or-range_with_len 0 (length bs) p 0 (omega arith));
      narrow = omega (arith, l.balances.ok.0, l.few);
      total = l.total;
    }

-- an agent is known below
pub agent_known : (f : Funds) (row : ℕ) → Sound f → agent f row < length f.accounts
agent_known f row s = cond_both (known f row) row 0 (λ a. a < length f.accounts) (λ e. ltb-true row (length f.accounts) e) (λ e. omega (arith, s.some))

pub agents_length : (f : Funds) (rows : List ℕ) → length (map (account f) (map (agent f) rows)) ≡ length rows
agents_length f rows = length-map (map (agent f) rows) (account f) ∙ length-map rows (agent f)

pub agents_account : (f : Funds) (rows : List ℕ) (p : ℕ) → p < length rows → slice_index (map (account f) (map (agent f) rows)) p ≡ account f (agent f (slice_index rows p))
agents_account f rows p h =
    let n = length-map rows (agent f) in
    get_or-map (account f) (map (agent f) rows) p 0 0 (omega arith) ∙ ap (account f) (get_or-map (agent f) rows p 0 0 h)

module _ {M : Type 0} (meaning : M → Funds) (sound : (m : M) → Sound (meaning m)) where
  pub table_sound : (t : AgentTable M) → Sound (table_funds meaning t)
  table_sound t =
      let f = meaning t.below in
      let s = sound t.below in
      let rows = vec_items t.agents.rows in
      let n = agents_length f rows in
      record {
        some = omega (arith, t.agents.rows.ok.0, t.agents.some);
        few = omega (arith, t.agents.rows.ok.0, t.agents.few);
        within = λ p h.
            let e = agents_account f rows p (omega arith) in
            omega (arith, s.within (agent f (slice_index rows p)) (agent_known f (slice_index rows p) s));
        narrow = s.narrow;
        total = s.total;
      }
