-- Lines and logs as the definition of a switch has them. This project's profile.
use Rattle.std.specs.Prelude.{ℕ, map, Result, Ok, Err}
use Rattle.line_server.specs.declared.line.Line.{Line}
use Rattle.line_server.specs.declared.out_line.OutLine.{OutLine}
use Rattle.line_server.specs.declared.out_line.OutLine.TheVariants as out
use Rattle.line_server.specs.declared.out_line.WaitLine.{WaitLine}
use Rattle.line_server.specs.declared.out_line.WaitLine.TheVariants as wait
use Rattle.line_server.specs.declared.out_line.Why.{Why}
use Rattle.line_server.specs.declared.out_line.Why.TheVariants as why
use Rattle.line_server.specs.declared.refusal.Refusal.{Refusal}
use Rattle.line_server.specs.declared.refusal.Refusal.TheVariants as refusal
use Rattle.line_server.specs.declared.request.Request.{Request}
use Rattle.line_server.specs.declared.request.Request.TheVariants as request
use Rattle.timeline.specs.Lines as line
use Rattle.timeline.specs.Switch as switch
use Rattle.mailbox.specs.declared.switch_log.SwitchLog.{SwitchLog}

-- What is no request has a number.
abbrev pub refusal_number : Refusal → ℕ
refusal_number refusal.Long = 0
refusal_number refusal.Json = 1
refusal_number refusal.Shape = 2

abbrev pub seen_why : Refusal → Why
seen_why refusal.Long = why.Long
seen_why refusal.Json = why.Json
seen_why refusal.Shape = why.Shape

-- A line that was accepted.
abbrev pub seen_request : Request → line.Request
seen_request (request.Call number to method args) = line.calls number to method args
seen_request (request.Tick moment) = line.ticks moment
seen_request (request.Fetched k value) = line.fetched k value
seen_request (request.FetchFailed k) = line.fetch_failed k
seen_request (request.Evict object) = line.evicts object

abbrev pub seen_body : Result Request Refusal → Result line.Request ℕ
seen_body (Ok request) = Ok (seen_request request)
seen_body (Err refused) = Err (refusal_number refused)

abbrev pub seen_line : Line → line.Line
seen_line l = record { number = l.number; body = seen_body l.body }

-- A line that is printed.
abbrev pub seen_refused : Why → line.Why
seen_refused why.Long = line.unreadable 0
seen_refused why.Json = line.unreadable 1
seen_refused why.Shape = line.unreadable 2
seen_refused why.Tick = line.backwards
seen_refused why.Fetch = line.no_fetch

abbrev pub seen_wait : WaitLine → line.WaitLine
seen_wait (wait.Fetch k) = line.on_fetch k
seen_wait (wait.Call class name) = line.on_call (class, name)
seen_wait wait.Block = line.on_block

abbrev pub seen_out : OutLine → line.OutLine
seen_out (out.Reply number value) = line.reply number value
seen_out (out.Error number failure) = line.error number failure
seen_out (out.Fetch k class name value) = line.fetch k (class, name) value
seen_out (out.Refused number reason) = line.refused number (seen_refused reason)
seen_out (out.Waiting number on) = line.waiting number (seen_wait on)

-- What a switch has logged.
abbrev pub seen_log : SwitchLog → switch.SwitchLog
seen_log log = record {
  accepted = map seen_line log.accepted.items;
  routed = log.routed.items;
  posts = log.posts.items;
  lines = map seen_out log.lines.items;
}
