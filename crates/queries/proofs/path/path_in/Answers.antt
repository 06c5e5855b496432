-- `queries::path::path_in` meets its contract, by the size of the path. Assumes nothing.
use mathlib.Core.Path.{sym, ◌∙◌}
use mathlib.Core.List.{List}
use Prim.Native.Nat.{ℕ}
use native.Mathlib.Omega.{arith}
use Rattle.paths.proofs.TableLaws.{rights_steps}
use Rattle.paths.proofs.PathLaws.{path_over, fits_count, fits_head, fits_edges, path_written}
use Rattle.queries.proofs.path.path_in.Goals as goal

pub path_size-requires : goal.path_size-requires
path_size-requires c =
    let tops-of : List ℕ = c.right_neighbors-right.result.tops in
    let ats-of : List ℕ = c.right_neighbors-right.result.ats in
    (rights_steps c.args.skip c.args.listing.now c.args.count tops-of ats-of c.requires.0 c.right_neighbors-right.ensures, c.requires.1)

pub overflow_cast-n : goal.overflow_cast-n
overflow_cast-n c =
    let tops-of : List ℕ = c.right_neighbors-right.result.tops in
    let ats-of : List ℕ = c.right_neighbors-right.result.ats in
    omega (arith, fits_count c.args.skip c.args.listing.now c.args.count tops-of ats-of c.right_neighbors-right.ensures c.args.start.0 c.args.end.0 c.requires.1 c.args.out.now (sym c.path_size.ensures ∙ c.in_ok-n.ensures.ok_part))

pub put_u16-requires : goal.put_u16-requires
put_u16-requires c =
    let tops-of : List ℕ = c.right_neighbors-right.result.tops in
    let ats-of : List ℕ = c.right_neighbors-right.result.ats in
    omega (arith, fits_head c.args.skip c.args.listing.now c.args.count tops-of ats-of c.right_neighbors-right.ensures c.args.start.0 c.args.end.0 c.requires.1 c.args.out.now (sym c.path_size.ensures ∙ c.in_ok-n.ensures.ok_part))

pub write_path-requires : goal.write_path-requires
write_path-requires c =
    let tops-of : List ℕ = c.right_neighbors-right.result.tops in
    let ats-of : List ℕ = c.right_neighbors-right.result.ats in
    (rights_steps c.args.skip c.args.listing.now c.args.count tops-of ats-of c.requires.0 c.right_neighbors-right.ensures, c.requires.1, fits_edges c.args.skip c.args.listing.now c.args.count tops-of ats-of c.right_neighbors-right.ensures c.args.start.0 c.args.end.0 c.requires.1 c.args.out.now (sym c.path_size.ensures ∙ c.in_ok-n.ensures.ok_part) c.put_u16.ensures)

pub returns-in_err-n-clause-output : goal.returns-in_err-n-clause-output
returns-in_err-n-clause-output c =
    (path_over c.args.skip c.args.listing.now c.args.count c.right_neighbors-right.result.tops c.right_neighbors-right.result.ats c.right_neighbors-right.ensures c.args.start.0 c.args.end.0 c.requires.1 c.args.out.now (sym c.path_size.ensures ∙ c.in_err-n.ensures.ok_part)).1

pub returns : goal.returns
returns c =
    let tops-of : List ℕ = c.right_neighbors-right.result.tops in
    let ats-of : List ℕ = c.right_neighbors-right.result.ats in
    record {
      answer = (path_written c.args.skip c.args.listing.now c.args.count tops-of ats-of c.right_neighbors-right.ensures c.args.start.0 c.args.end.0 c.requires.1 c.args.out.now (sym c.path_size.ensures ∙ c.in_ok-n.ensures.ok_part) c.put_u16.ensures c.write_path.ensures).0;
      output = (path_written c.args.skip c.args.listing.now c.args.count tops-of ats-of c.right_neighbors-right.ensures c.args.start.0 c.args.end.0 c.requires.1 c.args.out.now (sym c.path_size.ensures ∙ c.in_ok-n.ensures.ok_part) c.put_u16.ensures c.write_path.ensures).1;
    }
