-- Counts of faults, carried on.
use Rattle.std.proofs.Common.{◌≡◌, ◌≤◌, ℕ, Result, Ok, Err, ap, subst, arith}
use Rattle.do_disk.specs.Disk.{Rose}
use Rattle.line_server.specs.Given.{CountsReads}
use Rattle.line_server.specs.declared.fault.LineFault.{LineFault}
use Rattle.line_server.specs.declared.fault.LineFault.TheVariants.{ReadFailed, NoMemory}

-- a good answer
pub reads_ok : {T : Type 0} (before now : ℕ) (answer : T) → now ≡ before → CountsReads before now (Ok answer)
reads_ok before now answer same = record { later = omega arith; steady = same; rose = λ is. cc }

-- a read that gave a fault, after good ones
pub reads_stopped : {T X : Type 0} (first before now : ℕ) (fault : LineFault) (given : Result X LineFault) → given ≡ Err fault → before ≡ first → CountsReads before now given → let answer : Result T LineFault = Err fault in CountsReads first now answer
reads_stopped first before now fault given is same counts = record {
  later = let le : before ≤ now = counts.later in omega arith;
  steady = tt;
  rose = λ failed. let which : fault ≡ ReadFailed = cc in let rose : Rose before now = (rw is at counts.rose) (ap Err which) in subst (λ n. Rose n now) same rose;
}

-- want of memory
pub reads_refused : {T : Type 0} (before now : ℕ) → now ≡ before → let answer : Result T LineFault = Err NoMemory in CountsReads before now answer
reads_refused before now same = record { later = omega arith; steady = tt; rose = λ is. cc }
