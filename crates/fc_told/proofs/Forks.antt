-- What was told of a node, as the branches of a node are changed and rows are added.
use Rattle.std.proofs.Common.{◌≡◌, ℕ, zero, suc, ◌+◌, ◌<◌, refl, sym, ◌∙◌, ap, arith}
use Rattle.fc_spec.specs.requests.Request.{Nodes, no_nodes, statistic, facet}
use Rattle.fc_spec.specs.messages.Message.{no_partials, Rows, no_rows, row}
use Rattle.fc_spec.specs.messages.Target.{facet_at, nodes_in}
use Rattle.fc_spec.specs.messages.Held.{row_at}
use Rattle.fc_told.specs.Trees.{Forks, no_forks, fork, Branches, branches_at}
use Rattle.fc_told.specs.Adding.{changed_fork, rows_added, partials_added}

pub fork_changed : (n : ℕ) (g : Branches → Branches) (fs : Forks) → branches_at n (changed_fork n g fs) ≡ g (branches_at n fs)
fork_changed zero g no_forks = refl
fork_changed (suc n) g no_forks = fork_changed n g no_forks
fork_changed zero g (fork bs fs) = refl
fork_changed (suc n) g (fork bs fs) = fork_changed n g fs

pub fork_changed_other : (m n : ℕ) (g : Branches → Branches) (fs : Forks) → (m ≡ n → ⊥) → branches_at m (changed_fork n g fs) ≡ branches_at m fs
fork_changed_other zero zero g fs other = absurd (other refl)
fork_changed_other (suc m) zero g no_forks other = refl
fork_changed_other zero (suc n) g no_forks other = refl
fork_changed_other (suc m) (suc n) g no_forks other = fork_changed_other m n g no_forks (λ e. other (ap suc e))
fork_changed_other (suc m) zero g (fork bs fs) other = refl
fork_changed_other zero (suc n) g (fork bs fs) other = refl
fork_changed_other (suc m) (suc n) g (fork bs fs) other = fork_changed_other m n g fs (λ e. other (ap suc e))

-- no row has nothing
pub row_at-nothing : (j : ℕ) (nodes : Nodes) → row_at j nodes no_rows ≡ no_partials
row_at-nothing j no_nodes = refl
row_at-nothing zero (statistic name s nodes) = refl
row_at-nothing zero (facet f inner nodes) = refl
row_at-nothing (suc j) (statistic name s nodes) = row_at-nothing j nodes
row_at-nothing (suc j) (facet f inner nodes) = row_at-nothing j nodes

module _ (i : ℕ) where
  rows_earlier : (m n : ℕ) (rows : Rows) (nodes : Nodes) (fs : Forks) → m < n → branches_at m (rows_added i n rows nodes fs) ≡ branches_at m fs
  rows_earlier m n no_rows nodes fs h = refl
  rows_earlier m n (row ps rest) no_nodes fs h = refl
  rows_earlier m n (row ps rest) (statistic name s nodes) fs h = rows_earlier m (suc n) (row ps rest) nodes fs (omega arith)
  rows_earlier m n (row ps rest) (facet f inner nodes) fs h =
      rows_earlier m (suc n) rest nodes (changed_fork n (partials_added i ps inner) fs) (omega arith) ∙ fork_changed_other m n (partials_added i ps inner) fs (λ e. omega arith)

  -- of each node its row is added
  rows_at : (m n j : ℕ) (rows : Rows) (nodes : Nodes) (fs : Forks) → m ≡ n + j → branches_at m (rows_added i n rows nodes fs) ≡ partials_added i (row_at j nodes rows) (nodes_in (facet_at j nodes)) (branches_at m fs)
  rows_at m n j no_rows nodes fs e = ap (λ ps. partials_added i ps (nodes_in (facet_at j nodes)) (branches_at m fs)) (sym (row_at-nothing j nodes))
  rows_at m n j (row ps rest) no_nodes fs e = refl
  rows_at m n zero (row ps rest) (statistic name s nodes) fs e = rows_earlier m (suc n) (row ps rest) nodes fs (omega arith)
  rows_at m n (suc j) (row ps rest) (statistic name s nodes) fs e = rows_at m (suc n) j (row ps rest) nodes fs (omega arith)
  rows_at m n zero (row ps rest) (facet f inner nodes) fs e =
      let same : m ≡ n = omega arith in
      rows_earlier m (suc n) rest nodes (changed_fork n (partials_added i ps inner) fs) (omega arith)
      ∙ ap (λ x. branches_at x (changed_fork n (partials_added i ps inner) fs)) same ∙ fork_changed n (partials_added i ps inner) fs ∙ ap (λ x. partials_added i ps inner (branches_at x fs)) (sym same)
  rows_at m n (suc j) (row ps rest) (facet f inner nodes) fs e =
      rows_at m (suc n) j rest nodes (changed_fork n (partials_added i ps inner) fs) (omega arith)
      ∙ ap (partials_added i (row_at j nodes rest) (nodes_in (facet_at j nodes))) (fork_changed_other m n (partials_added i ps inner) fs (λ h. omega arith))

  pub rows_added_at : (m : ℕ) (rows : Rows) (nodes : Nodes) (fs : Forks) → branches_at m (rows_added i 0 rows nodes fs) ≡ partials_added i (row_at m nodes rows) (nodes_in (facet_at m nodes)) (branches_at m fs)
  rows_added_at m rows nodes fs = rows_at m 0 m rows nodes fs (omega arith)
