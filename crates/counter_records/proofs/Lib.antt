-- `ReturnLaws`: what a batch that is over returns.
mod ReturnLaws
